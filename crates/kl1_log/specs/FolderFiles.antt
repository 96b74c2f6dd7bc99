-- What the file of a folder shows.
use Rattle.std.specs.Prelude.{Bool}
use Rattle.kl1_log.specs.declared.folder_file.FolderFile.{FolderFile}

module _ {R F D : Type 0} where
  -- whether no call has failed
  abbrev pub is_usable_file : FolderFile R F D → Bool
  is_usable_file f = f.usable
