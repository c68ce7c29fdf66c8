-- A reader's fault handed on by the reader above it.
use Rattle.std.proofs.Common.{◌≡◌, Result, Ok, Err}
use Rattle.std.specs.Prelude.{⊤}
use Rattle.std.specs.Result.{IsErrAnd}
use Rattle.json_words.specs.Answer.{ReadsTo, ReadsAs, OnBad}
use Rattle.json_words.specs.declared.answer.ReadFault.{ReadFault}
use Rattle.json_words.specs.declared.answer.ReadFault.TheVariants.{Bad, NoMemory}

-- where a fault of one check is the fault of the whole, it may be handed on
pub ReadsTo-handed_on : {A B C D E : Type 0} (meaning : A → B) (whole_meaning : C → D) (fault : ReadFault E) (part : Result B E) (whole : Result D E)
    → ((bad : E) → part ≡ Err bad → whole ≡ Err bad) → ReadsTo meaning (Err fault) part → ReadsTo whole_meaning (Err fault) whole
ReadsTo-handed_on meaning whole_meaning (Bad bad) part whole hands is = hands bad is
ReadsTo-handed_on meaning whole_meaning NoMemory part whole hands is = tt

-- the same of values that stand for themselves
pub ReadsAs-handed_on : {A C E : Type 0} (fault : ReadFault E) (part : Result A E) (whole : Result C E)
    → ((bad : E) → part ≡ Err bad → whole ≡ Err bad) → ReadsAs (Err fault) part → ReadsAs (Err fault) whole
ReadsAs-handed_on fault part whole hands is = ReadsTo-handed_on (λ a. a) (λ c. c) fault part whole hands is

-- what holds where a bad text is told, handed on by a reader that tells the same fault
pub OnBad-handed_on : {C E P Q : Type 0} (fault : ReadFault E) (result : Result C (ReadFault E)) → IsErrAnd result (λ told. told ≡ fault) → (P → Q) → OnBad {A = ⊤} (Err fault) P → OnBad result Q
OnBad-handed_on fault (Ok c) is hands holds = absurd is
OnBad-handed_on (Bad bad) (Err (Bad told)) is hands holds = hands holds
OnBad-handed_on NoMemory (Err (Bad told)) is hands holds = absurd (cc)
OnBad-handed_on fault (Err NoMemory) is hands holds = tt

-- what holds anyway
pub OnBad-always : {A E P : Type 0} (result : Result A (ReadFault E)) → P → OnBad result P
OnBad-always (Ok a) holds = tt
OnBad-always (Err (Bad bad)) holds = holds
OnBad-always (Err NoMemory) holds = tt
