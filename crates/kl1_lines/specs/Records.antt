-- What the next record of a script stands for.
use Rattle.std.specs.Prelude.{ℕ, ◌<◌, true, false, [], length}
use Rattle.kl1_model.specs.Record as model
use Rattle.kl1_model.specs.Record.{Records, record_first, records_of}
use Rattle.kl1_lines.specs.declared.record.Request.{Request}
use Rattle.kl1_lines.specs.declared.record.Request.TheVariants as request
use Rattle.kl1_lines.specs.declared.record.NextRecord.{NextRecord}
use Rattle.kl1_lines.specs.declared.record.NextRecord.TheVariants as next

-- the request that this one is
abbrev pub request_of : Request → model.Request
request_of (request.Load source) = model.load_of source.now
request_of request.SpoiledLoad = model.spoiled_load
request_of (request.Line line) = model.other_line line.now

-- the records that begin with the next one
abbrev pub records_from : NextRecord → Records
records_from next.End = record { list = []; is_truncated = false }
records_from next.Truncated = record { list = []; is_truncated = true }
records_from (next.Found r) = record_first (record { name = r.name.now; request = request_of r.request }) (records_of r.rest.now)

-- what is after the next record has fewer bytes than this
abbrev pub IsShorter : ℕ → NextRecord → Type 0
IsShorter n next.End = Unit {0}
IsShorter n next.Truncated = Unit {0}
IsShorter n (next.Found r) = length r.rest.now < n
