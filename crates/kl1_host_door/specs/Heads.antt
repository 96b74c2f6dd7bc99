-- The head with which bytes begin.
use Rattle.std.specs.Prelude.{◌≡◌, ◌≤◌, ℕ, List, [], length, map, take}
use Rattle.httparse.specs.Grammar.{RequestHead, ReadsRequest, HasNoRequest, MayBecomeRequest}
use Rattle.httparse.specs.Spans.{span_bytes, header_bytes, name_and_value, RequestOverflows}
use Rattle.httparse.specs.declared.spans.HeaderSpan.{HeaderSpan}
use Rattle.httparse.specs.declared.spans.RequestSpans.{RequestSpans}
use Rattle.kl1_host_door.specs.declared.limits.TheConstants.{MOST_FIELDS}
use Rattle.kl1_host_door.specs.declared.field.Field.{Field}
use Rattle.kl1_host_door.specs.declared.head.Head.{Head}
use Rattle.kl1_host_door.specs.declared.head.Reading.{Reading}
use Rattle.kl1_host_door.specs.declared.head.Reading.TheVariants as reading

-- the name and the value of a field
abbrev pub pair_of : Field → List ℕ × List ℕ
pair_of f = (f.name.items, f.value.items)

-- the parts of a head are the bytes that spans cover
pub record IsCopied (bytes : List ℕ) (spans : List HeaderSpan) (request : RequestSpans) (head : Head) : Type 0 where
  pub method : head.method.items ≡ span_bytes bytes request.method
  pub target : head.target.items ≡ span_bytes bytes request.path
  pub minor : head.minor ≡ request.version
  pub fields : map pair_of head.fields.items ≡ map (header_bytes bytes) (take request.headers spans)

-- these bytes are a head of HTTP/1.1, and this is it
pub record IsHead (bytes : List ℕ) (head : Head) : Type 0 where
  pub h : RequestHead
  pub reads : ReadsRequest bytes h []
  pub method : head.method.items ≡ h.method
  pub target : head.target.items ≡ h.target
  pub minor : head.minor ≡ h.minor
  pub fields : map pair_of head.fields.items ≡ map name_and_value h.fields

-- bytes begin with a head of this length; or they don't, but more of them may; or no head with as many fields as may be begins so
abbrev pub IsReading : List ℕ → Reading → Type 0
IsReading bytes (reading.Whole head len) = (len ≤ length bytes) × IsHead (take len bytes) head
IsReading bytes reading.Partial = HasNoRequest bytes × MayBecomeRequest bytes
IsReading bytes reading.Bad = RequestOverflows MOST_FIELDS bytes
