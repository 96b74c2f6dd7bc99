-- Why requests are refused, and what is told then.
use Rattle.std.specs.Prelude.{ℕ, List, codes}
use Rattle.kl1_host_door.specs.declared.status.Status.{Status}
use Rattle.kl1_host_door.specs.declared.status.Status.TheVariants.{BadRequest, Forbidden, LargeBody, LargeHead, LengthRequired, MethodNotAllowed, NotFound, Unavailable}
use Rattle.kl1_host_door.specs.declared.refusal.Refusal.{Refusal}
use Rattle.kl1_host_door.specs.declared.refusal.Refusal.TheVariants as refusal

-- the status that is answered to a request that is refused
abbrev pub status_of : Refusal → Status
status_of refusal.BadHead = BadRequest
status_of refusal.LargeHead = LargeHead
status_of refusal.Repeated = BadRequest
status_of refusal.Method = MethodNotAllowed
status_of refusal.NoHost = BadRequest
status_of refusal.OtherHost = Forbidden
status_of refusal.OtherOrigin = Forbidden
status_of refusal.Query = BadRequest
status_of refusal.NotLocal = Forbidden
status_of refusal.Nobody = Forbidden
status_of refusal.Token = Forbidden
status_of refusal.Chunked = LengthRequired
status_of refusal.NoLength = LengthRequired
status_of refusal.BadLength = BadRequest
status_of refusal.LargeBody = LargeBody
status_of refusal.BadBody = BadRequest
status_of refusal.NoPage = NotFound
status_of refusal.WrongKey = Forbidden
status_of refusal.ManySessions = Forbidden
status_of refusal.Memory = Unavailable

-- what is told of a request that is refused
abbrev pub words_of : Refusal → List ℕ
words_of refusal.BadHead = codes "The request is no request of HTTP/1.1."
words_of refusal.LargeHead = codes "The head of the request is too large."
words_of refusal.Repeated = codes "A field of the request stands twice."
words_of refusal.Method = codes "The page has another method."
words_of refusal.NoHost = codes "The request names no host."
words_of refusal.OtherHost = codes "The request names another host."
words_of refusal.OtherOrigin = codes "The request comes from the page of another host."
words_of refusal.Query = codes "Nothing is taken from a URL but the number of a first shoen."
words_of refusal.NotLocal = codes "Only the machine of the host is told that."
words_of refusal.Nobody = codes "Nobody is logged in."
words_of refusal.Token = codes "The token of the session is missing or wrong."
words_of refusal.Chunked = codes "The body has to come in one piece."
words_of refusal.NoLength = codes "The request doesn't tell the length of its body."
words_of refusal.BadLength = codes "The length of the body is no number."
words_of refusal.LargeBody = codes "The body has too many bytes."
words_of refusal.BadBody = codes "The body isn't what is asked for."
words_of refusal.NoPage = codes "There is no such page."
words_of refusal.WrongKey = codes "The name or the key is wrong."
words_of refusal.ManySessions = codes "Too many sessions are open."
words_of refusal.Memory = codes "The host is short of memory."
