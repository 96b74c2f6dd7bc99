-- The statuses of answers.
use Rattle.std.specs.Prelude.{ℕ, List, codes}
use Rattle.kl1_host_door.specs.declared.status.Status.{Status}
use Rattle.kl1_host_door.specs.declared.status.Status.TheVariants as status

-- the number of a status and its name
abbrev pub text_of : Status → List ℕ
text_of status.Good = codes "200 OK"
text_of status.BadRequest = codes "400 Bad Request"
text_of status.Forbidden = codes "403 Forbidden"
text_of status.NotFound = codes "404 Not Found"
text_of status.MethodNotAllowed = codes "405 Method Not Allowed"
text_of status.LengthRequired = codes "411 Length Required"
text_of status.LargeBody = codes "413 Content Too Large"
text_of status.LargeHead = codes "431 Request Header Fields Too Large"
text_of status.Unavailable = codes "503 Service Unavailable"
