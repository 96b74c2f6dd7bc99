use Rattle.std.proofs.Common.{arith, subst}
use Rattle.kl1_match.specs.declared.verdict.Verdict.{Verdict}
use Rattle.kl1_match.proofs.Trying.{keeps_of, TriedKept, accepts_kept, suspends_kept, dropped_kept}
use Rattle.kl1_match.proofs.heads.judge_plain.Goals as goal

pub returns-in-Accepts : goal.returns-in-Accepts
returns-in-Accepts g c =
    let Q : Verdict → Type 0 = λ v. TriedKept g.N.NameValue.built c.args.names.now c.args.clause.now c.args.store.now.held c.args.goal (keeps_of g.row.KEEP) c.find_match.new.places.items c.args.awaited.now.items c.find_match.new.awaited.items v in
    accepts_kept g.N.NameValue.built c.args.names.now c.args.clause.now c.args.store.now.held c.args.goal (keeps_of g.row.KEEP) c.find_match.new.places.items c.args.awaited.now.items c.find_match.new.awaited.items c.requires.plain (subst Q c.in-Accepts.is c.in_ok-find_match.ensures)

pub returns-in-Suspends : goal.returns-in-Suspends
returns-in-Suspends g c =
    let Q : Verdict → Type 0 = λ v. TriedKept g.N.NameValue.built c.args.names.now c.args.clause.now c.args.store.now.held c.args.goal (keeps_of g.row.KEEP) c.find_match.new.places.items c.args.awaited.now.items c.find_match.new.awaited.items v in
    suspends_kept g.N.NameValue.built c.args.names.now c.args.clause.now c.args.store.now.held c.args.goal (keeps_of g.row.KEEP) c.find_match.new.places.items c.args.awaited.now.items c.find_match.new.awaited.items c.requires.plain (subst Q c.in-Suspends.is c.in_ok-find_match.ensures)

pub returns-in-Rejects : goal.returns-in-Rejects
returns-in-Rejects g c =
    let Q : Verdict → Type 0 = λ v. TriedKept g.N.NameValue.built c.args.names.now c.args.clause.now c.args.store.now.held c.args.goal (keeps_of g.row.KEEP) c.find_match.new.places.items c.args.awaited.now.items c.find_match.new.awaited.items v in
    dropped_kept g.N.NameValue.built c.args.names.now c.args.clause.now c.args.store.now.held c.args.goal (keeps_of g.row.KEEP) c.find_match.new.places.items c.args.awaited.now.items c.find_match.new.awaited.items c.truncate.new.self.items c.len-before.result
    (omega (arith, c.len-before.ensures, c.args.awaited.now.ok.0)) c.truncate.ensures.items (subst Q c.in-Rejects.is c.in_ok-find_match.ensures)
