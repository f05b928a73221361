-- Why a name in a folder has no path.
use Rattle.std.specs.Prelude.{◌≡◌, ◌<◌, ℕ, List, IsUtf8, false, length}
use Rattle.std.specs.Str.{is_utf8}
use Rattle.mot_files.specs.Listing.{path_in}
use Rattle.mot_shelf.specs.declared.path.NoPath.{NoPath}
use Rattle.mot_shelf.specs.declared.path.NoPath.TheVariants.{NoText, TooLong}
use Rattle.mot_shelf.specs.declared.path.TheConstants.{LONGEST_PATH}

abbrev pub IsWithoutPath : (path name : List ℕ) → NoPath → Type 0
IsWithoutPath path name NoText = is_utf8 name ≡ false
IsWithoutPath path name TooLong = IsUtf8 name × (LONGEST_PATH < length (path_in path name))
