use Rattle.std.proofs.Common.{◌≡◌, false, take}
use Rattle.kl1_model_server.specs.Script.{is_account}
use Rattle.kl1_script.proofs.accounts.place_in.Given as goal

-- no account so far has the name
abbrev pub invariant-loop-place : goal.invariant-loop-place
invariant-loop-place l = is_account (take l.place l.accounts) l.name ≡ false
