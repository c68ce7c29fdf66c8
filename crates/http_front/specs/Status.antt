-- The number and the words of each status, as a status line shows them. RFC 9110, section 15; 431 is of RFC 6585, and
-- 442 to 449 are our own.
use Rattle.std.specs.Prelude.{ℕ, List, codes}
use Rattle.http_front.specs.declared.status.Status.{Status}
use Rattle.http_front.specs.declared.status.Status.TheVariants.{Success, NotModified, BadRequest, Forbidden, NotFound, Conflict, ContentTooLarge, HeadTooLarge, TooLarge, Damaged, Incomplete, Spent, ServerError, NotImplemented, Unavailable}

abbrev pub status_words : Status → List ℕ
status_words Success = codes "200 OK"
status_words NotModified = codes "304 Not Modified"
status_words BadRequest = codes "400 Bad Request"
status_words Forbidden = codes "403 Forbidden"
status_words NotFound = codes "404 Not Found"
status_words Conflict = codes "409 Conflict"
status_words ContentTooLarge = codes "413 Content Too Large"
status_words HeadTooLarge = codes "431 Request Header Fields Too Large"
status_words TooLarge = codes "442 Too Large"
status_words Damaged = codes "445 Damaged"
status_words Incomplete = codes "446 Incomplete"
status_words Spent = codes "449 Spent"
status_words ServerError = codes "500 Internal Server Error"
status_words NotImplemented = codes "501 Not Implemented"
status_words Unavailable = codes "503 Service Unavailable"
