use Rattle.std.proofs.Common.{◌≡◌, Some, refl, take}
use Rattle.http_front.specs.RequestHead.{number_in}
use Rattle.http_front.specs.Status.{status_words}
use Rattle.http_front.specs.declared.status.Status.{Status}
use Rattle.http_front.specs.declared.status.Status.TheVariants.{Success, NotModified, BadRequest, Forbidden, NotFound, Conflict, ContentTooLarge, HeadTooLarge, TooLarge, Damaged, Incomplete, Spent, ServerError, NotImplemented, Unavailable}
use Rattle.http_client.specs.ReplyHead.{status_number}
use Rattle.http_client.proofs.laws.the_number_of_a_status_is_the_one_that_its_words_begin_with.Goals as goal

number_is : (status : Status) → number_in (take 3 (status_words status)) ≡ Some (status_number status)
number_is Success = refl
number_is NotModified = refl
number_is BadRequest = refl
number_is Forbidden = refl
number_is NotFound = refl
number_is Conflict = refl
number_is ContentTooLarge = refl
number_is HeadTooLarge = refl
number_is TooLarge = refl
number_is Damaged = refl
number_is Incomplete = refl
number_is Spent = refl
number_is ServerError = refl
number_is NotImplemented = refl
number_is Unavailable = refl

pub returns : goal.returns
returns c = λ status. number_is status
