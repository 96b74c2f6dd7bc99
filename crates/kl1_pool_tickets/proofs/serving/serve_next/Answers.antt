use Rattle.kl1_pool_tickets.proofs.Tickets.{serves_one}
use Rattle.kl1_pool_tickets.proofs.serving.serve_next.Goals as goal

pub returns-in-Some : goal.returns-in-Some
returns-in-Some g c =
    serves_one g.A.Accounts.turned c.in-Some.account c.serve.ensures.0 c.args.share.now c.take.new.self c.serve.new.share c.in-Some.ensures.0 c.in-Some.ensures.1 c.serve.ensures.1
