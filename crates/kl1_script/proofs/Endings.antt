-- Endings in which no record is done.
use Rattle.std.proofs.Common.{◌≡◌, ℕ, List, [], codes, refl, ap, ◌∙◌, subst, arith}
use Rattle.std.proofs.lemmas.List.{append-nil}
use Rattle.std.specs.Prelude.{Ok, Err, None, Some, OnErr, option_map, unwrap_or}
use Rattle.std.specs.declared.option.Option.{Option}
use Rattle.std.specs.declared.result.Result.{Result}
use Rattle.std.specs.Io.KnownBytes.{Appends}
use Rattle.kl1_model.specs.Line.{line_in, behind_feed, words_of}
use Rattle.kl1_model.specs.Record.{records_of}
use Rattle.kl1_model_server.specs.Command.{written_line}
use Rattle.kl1_model_server.specs.Script.{accounts_in, output, written_records}
use Rattle.kl1_lines.specs.Devices.{ReadsFew}
use Rattle.kl1_lines.specs.Replies.{Ends, Finishes}
use Rattle.kl1_lines.specs.Runs.{Runs, Streams}
use Rattle.kl1_lines.specs.declared.script_fault.ScriptFault.{ScriptFault}
use Rattle.kl1_lines.specs.declared.script_fault.ScriptFault.TheVariants as faults
use Rattle.kl1_script.specs.Scripts.{replies_by, replies_from, script_replies}
use Rattle.kl1_lines.proofs.DeviceLaws.{appends_none, front_behind, some_left}

-- memory was refused before any record was done
pub nothing_ends : (T : Type 0) (old : Option (List ℕ)) (f : ℕ) (all : List ℕ) (each : List (List ℕ)) → Ends {T = T} old old f f all each (Err faults.Memory)
nothing_ends T old f all each = (record { count = 0; fewer = omega arith; written = appends_none old }, refl)

-- these last bytes are all that is written
pub finish_ends : {T : Type 0} (r : Result T ScriptFault) (old new : Option (List ℕ)) (f g : ℕ) (bytes all : List ℕ) (each : List (List ℕ)) → bytes ≡ all → Finishes old new f g bytes r → Ends old new f g all each r
finish_ends (Ok v) old new f g bytes all each e x = (let P : List ℕ → Type 0 = λ y. Appends old new y in subst P e x.0, x.1)
finish_ends (Err faults.Memory) old new f g bytes all each e x = absurd x
finish_ends (Err faults.Write) old new f g bytes all each e x = (front_behind old old new [] bytes [] all (appends_none old) x.0 (append-nil bytes ∙ e), x.1)
finish_ends (Err faults.Read) old new f g bytes all each e x = absurd x
finish_ends (Err faults.TooLong) old new f g bytes all each e x = absurd x

-- an ending, said of equal texts under other names
pub ends_as : {T : Type 0} (r : Result T ScriptFault) (old new : Option (List ℕ)) (f g : ℕ) (all every : List ℕ) (each replies : List (List ℕ)) → every ≡ all → replies ≡ each → Ends old new f g every replies r → Ends old new f g all each r
ends_as r old new f g all every each replies e d x =
    let P : List ℕ → Type 0 = λ y. Ends old new f g y replies r in
    let Q : List (List ℕ) → Type 0 = λ y. Ends old new f g all y r in
    subst Q d (subst P e x)

-- what is written for a text after the first line, if that names these accounts
abbrev written_by : List ℕ → Option (List (List ℕ)) → List ℕ
written_by text accounts = unwrap_or (option_map (λ names. written_records names (records_of text)) accounts) (written_line (codes "! accounts"))

-- the first line of a script names no accounts
pub unnamed_ends : {T : Type 0} (r : Result T ScriptFault) (old new : Option (List ℕ)) (f g : ℕ) (script : List ℕ) → None ≡ accounts_in (words_of (line_in script)) → Finishes old new f g (written_line (codes "! accounts")) r → Ends old new f g (output script) (script_replies script) r
unnamed_ends r old new f g script none x =
    finish_ends r old new f g (written_line (codes "! accounts")) (output script) (script_replies script) (ap (written_by (behind_feed script)) none) x

-- it names accounts, and the records of the text after it were answered
pub named_ends : {T : Type 0} (r : Result T ScriptFault) (old new : Option (List ℕ)) (f g : ℕ) (script text : List ℕ) (accounts : List (List ℕ)) → text ≡ behind_feed script → Some accounts ≡ accounts_in (words_of (line_in script)) → Ends old new f g (written_records accounts (records_of text)) (replies_from accounts [] (records_of text).list) r → Ends old new f g (output script) (script_replies script) r
named_ends r old new f g script text accounts behind some x =
    ends_as r old new f g (output script) (written_records accounts (records_of text)) (script_replies script) (replies_from accounts [] (records_of text).list)
    (ap (λ t. written_records accounts (records_of t)) behind ∙ ap (written_by (behind_feed script)) some)
    (ap (λ t. replies_from accounts [] (records_of t).list) behind ∙ ap (λ names. replies_by names (records_of (behind_feed script)).list) some) x

-- memory was refused before the text was read
pub nothing_runs : (T : Type 0) (output : List ℕ → List ℕ) (replies : List ℕ → List (List ℕ)) (old : Streams) → Runs {T = T} output replies old old (Err faults.Memory)
nothing_runs T output replies old =
    let left = some_left old.remaining in
    (record { text = left.0; left = left.1; stops = record { count = 0; fewer = omega arith; written = appends_none old.contents } }, refl, refl)

-- no byte was read
pub nothing_read : (old : Option (List ℕ)) (most : ℕ) → ReadsFew old old most
nothing_read None most = record { bytes = []; few = omega arith; consumes = tt }
nothing_read (Some xs) most = record { bytes = []; few = omega arith; consumes = refl }

-- what holds in any case holds after a failure
pub always_err : {T E P : Type 0} (r : Result T E) → P → OnErr r P
always_err (Ok x) p = tt
always_err (Err e) p = p
