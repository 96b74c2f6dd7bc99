-- How the log tells that a connection has ended.
use Rattle.std.specs.Prelude.{ℕ, List, codes}
use Rattle.kl1_session.specs.declared.connection.Disconnect.{Disconnect}
use Rattle.kl1_session.specs.declared.connection.Disconnect.TheVariants.{Bye, Ended, Fault}

-- the word for how a connection ended
abbrev pub end_word : Disconnect → List ℕ
end_word Bye = codes "logout"
end_word Ended = codes "end"
end_word Fault = codes "fault"
