-- Bytes that are no text are no digits.
use Rattle.http_front.proofs.TokenLemmas.{secret_text}
use Rattle.http_front.proofs.token.read_secret.Goals as goal

pub returns-in-Err : goal.returns-in-Err
returns-in-Err c secret is same = absurd (c.in-Err.ensures.cases.0 (secret_text c.args.text.now secret same))
