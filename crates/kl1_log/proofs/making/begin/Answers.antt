use Rattle.kl1_log.proofs.Renaming.{write_failed, beside_next, sync_failed, ready_next, ready_before, rename_failed, folder_failed, begun_moments, begun_rests}
use Rattle.kl1_log.proofs.making.begin.Goals as goal

pub returns-in_err-write_next-clause-any_moment : goal.returns-in_err-write_next-clause-any_moment
returns-in_err-write_next-clause-any_moment g c =
    write_failed (g.D.Disk.known c.args.disk.now) c.args.bytes.now c.requires.at_rest (g.D.Disk.known c.write_next.new.self) c.in_err-write_next.ensures.err

pub sync_next-requires-clause-next : goal.sync_next-requires-clause-next
sync_next-requires-clause-next g c =
    beside_next (g.D.Disk.known c.args.disk.now) c.args.bytes.now c.requires.at_rest (g.D.Disk.known c.write_next.new.self) c.in_ok-write_next.ensures.ok

pub returns-in_err-sync_next-clause-any_moment : goal.returns-in_err-sync_next-clause-any_moment
returns-in_err-sync_next-clause-any_moment g c =
    sync_failed (g.D.Disk.known c.args.disk.now) c.args.bytes.now c.requires.at_rest (g.D.Disk.known c.write_next.new.self) c.in_ok-write_next.ensures.ok (g.D.Disk.known c.sync_next.new.self) c.in_err-sync_next.ensures.err

pub rename-requires-clause-next : goal.rename-requires-clause-next
rename-requires-clause-next g c =
    ready_next (g.D.Disk.known c.args.disk.now) c.args.bytes.now c.requires.at_rest (g.D.Disk.known c.write_next.new.self) c.in_ok-write_next.ensures.ok (g.D.Disk.known c.sync_next.new.self) c.in_ok-sync_next.ensures.ok

pub rename-requires-clause-before : goal.rename-requires-clause-before
rename-requires-clause-before g c =
    ready_before (g.D.Disk.known c.args.disk.now) c.args.bytes.now c.requires.at_rest (g.D.Disk.known c.write_next.new.self) c.in_ok-write_next.ensures.ok (g.D.Disk.known c.sync_next.new.self) c.in_ok-sync_next.ensures.ok

pub returns-in_err-rename-clause-any_moment : goal.returns-in_err-rename-clause-any_moment
returns-in_err-rename-clause-any_moment g c =
    rename_failed (g.D.Disk.known c.args.disk.now) c.args.bytes.now c.requires.at_rest (g.D.Disk.known c.write_next.new.self) c.in_ok-write_next.ensures.ok (g.D.Disk.known c.sync_next.new.self) c.in_ok-sync_next.ensures.ok
    (g.D.Disk.known c.rename.new.self) c.in_err-rename.ensures.err

pub returns-in_err-sync_folder-clause-any_moment : goal.returns-in_err-sync_folder-clause-any_moment
returns-in_err-sync_folder-clause-any_moment g c =
    folder_failed (g.D.Disk.known c.args.disk.now) c.args.bytes.now c.requires.at_rest (g.D.Disk.known c.write_next.new.self) c.in_ok-write_next.ensures.ok (g.D.Disk.known c.sync_next.new.self) c.in_ok-sync_next.ensures.ok
    (g.D.Disk.known c.rename.new.self) c.in_ok-rename.ensures.ok (g.D.Disk.known c.sync_folder.new.self) c.in_err-sync_folder.ensures.err

pub returns-clause-any_moment : goal.returns-clause-any_moment
returns-clause-any_moment g c =
    begun_moments (g.D.Disk.known c.args.disk.now) c.args.bytes.now c.requires.at_rest (g.D.Disk.known c.write_next.new.self) c.in_ok-write_next.ensures.ok (g.D.Disk.known c.sync_next.new.self) c.in_ok-sync_next.ensures.ok
    (g.D.Disk.known c.rename.new.self) c.in_ok-rename.ensures.ok (g.D.Disk.known c.sync_folder.new.self) c.in_ok-sync_folder.ensures.ok

pub returns-clause-at_rest : goal.returns-clause-at_rest
returns-clause-at_rest g c =
    (begun_rests (g.D.Disk.known c.args.disk.now) c.args.bytes.now c.requires.at_rest (g.D.Disk.known c.write_next.new.self) c.in_ok-write_next.ensures.ok (g.D.Disk.known c.sync_next.new.self) c.in_ok-sync_next.ensures.ok
    (g.D.Disk.known c.rename.new.self) c.in_ok-rename.ensures.ok (g.D.Disk.known c.sync_folder.new.self) c.in_ok-sync_folder.ensures.ok).0

pub returns-clause-text : goal.returns-clause-text
returns-clause-text g c =
    (begun_rests (g.D.Disk.known c.args.disk.now) c.args.bytes.now c.requires.at_rest (g.D.Disk.known c.write_next.new.self) c.in_ok-write_next.ensures.ok (g.D.Disk.known c.sync_next.new.self) c.in_ok-sync_next.ensures.ok
    (g.D.Disk.known c.rename.new.self) c.in_ok-rename.ensures.ok (g.D.Disk.known c.sync_folder.new.self) c.in_ok-sync_folder.ensures.ok).1
