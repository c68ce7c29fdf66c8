-- What a reader answers: the wanted answer, unless memory was refused. Our own. Read ReadsAs first.
use Rattle.std.specs.Prelude.{◌≡◌, Result, Ok, Err, ⊤}
use Rattle.json_words.specs.declared.answer.ReadFault.{ReadFault}
use Rattle.json_words.specs.declared.answer.ReadFault.TheVariants.{Bad, NoMemory}

-- the answer is the wanted one, or want of memory; `meaning` is what a value of the program stands for
abbrev pub ReadsTo : {A B E : Type 0} → (A → B) → Result A (ReadFault E) → Result B E → Type 0
ReadsTo meaning (Ok a) wanted = wanted ≡ Ok (meaning a)
ReadsTo meaning (Err (Bad fault)) wanted = wanted ≡ Err fault
ReadsTo meaning (Err NoMemory) wanted = ⊤

-- the same of values that stand for themselves
abbrev pub ReadsAs : {A E : Type 0} → Result A (ReadFault E) → Result A E → Type 0
ReadsAs result wanted = ReadsTo (λ a. a) result wanted

-- what holds where a bad text is told
abbrev pub OnBad : {A E : Type 0} → Result A (ReadFault E) → Type 0 → Type 0
OnBad (Ok a) P = ⊤
OnBad (Err (Bad fault)) P = P
OnBad (Err NoMemory) P = ⊤
