use Rattle.kl1_log.specs.LogFiles.{disk_of}
use Rattle.kl1_host_journals.proofs.Reading.{kept_on}
use Rattle.kl1_host_journals.proofs.kept_file.KeptFile.shows_kept.Goals as goal

pub returns : goal.returns
returns g c =
    let f = c.args.self.now in
    let s = c.args.stored.now in
    kept_on (g.D.Disk.known (disk_of f.file)) s.place.seen.log f.place.seen.log (f.file.at_rest c.requires.usable) (f.text c.requires.usable) s.place.some f.place.some c.shows_stands.ensures c.shows_dated.ensures c.shows_dated-2.ensures
