use Rattle.kl1_machine.proofs.Words.{◌||◌, sym, ap, ◌∙◌, list_any, path_in, is_living_child_of}
use Rattle.kl1_machine.proofs.Calm.{unreached_each, kept_each, free_path}
use Rattle.kl1_machine.proofs.machine.Machine.is_calm.Goals as goal

pub returns-clause-lives : goal.returns-clause-lives
returns-clause-lives c = λ has.
    let m = c.args.self.now in
    let n = c.args.number in
    kept_each m.goals.goals m.shoens.shoens m.shoens.work n n c.len-numbered.ensures.numbered (λ some. ap (λ b. b || list_any (is_living_child_of n) m.shoens.shoens) (sym c.has_goal.ensures ∙ has))
    (free_path m n c.requires c.if-self.false)

pub returns-clause-unreached : goal.returns-clause-unreached
returns-clause-unreached c = λ ending has.
    let m = c.args.self.now in
    unreached_each m.shoens.shoens m.shoens.work ending (path_in m.shoens.shoens c.args.number) (free_path m c.args.number c.requires c.if-self.false)
