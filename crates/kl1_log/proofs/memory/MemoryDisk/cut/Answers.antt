use Rattle.kl1_log.specs.Memories.{state_of, course_of}
use Rattle.kl1_log.proofs.Courses.{cuts_if_ok}
use Rattle.kl1_log.proofs.memory.MemoryDisk.cut.Goals as goal

pub returns-clause-ok : goal.returns-clause-ok
returns-clause-ok c =
    cuts_if_ok c.end.result (course_of c.args.self.now) (course_of c.begin.new.self) (course_of c.go_to.new.self) (course_of c.end.new.self) c.args.len (state_of c.in_ok-loose.loose) (state_of c.in_ok-next.next) c.begin.ensures.course c.in_ok-loose.ensures c.in_ok-go_to.ensures.ok c.in_ok-next.ensures c.end.ensures.ok
