-- The bytes that are appended in turn are those of the header.
use Rattle.std.proofs.Common.{◌≡◌, ℕ, ◌+◌, List, [], ◌∷◌, ◌++◌, length, map, append_assoc, Option}
use Rattle.std.proofs.lemmas.Grind.{flat_map-append}
use Rattle.std.specs.Prelude.{flat_map, option_to_list}
use Rattle.mot_directory.specs.Parameter.{Parameter, OneByte, bytes_of_parameter}
use Rattle.mot_directory.specs.Header.{bytes_of_header, bytes_of_core}
use Rattle.mot_directory.specs.Entries.{parameters_with, text_parameter}
use Rattle.mot_directory.specs.Directory.{text_size, mime_size}
use Rattle.mot_directory.proofs.Fits.{length-extension}
use Rattle.mot_objects.specs.Name.{ContentNumbers}

-- the core, the name, the MIME type and the version, appended in turn, are the header
pub header-appended : (out name : List ℕ) (mime : Option (List ℕ)) (body version : ℕ)
    (content : ContentNumbers) (size : ℕ) →
    size ≡ 7 + text_size (1 + length name) + mime_size mime + 2 →
    out ++ bytes_of_core body size content ++ bytes_of_parameter (text_parameter 12 (240 ∷ name))
    ++ flat_map bytes_of_parameter (map (text_parameter 16) (option_to_list mime)) ++ 70 ∷ version
    ∷ []
    ≡ out ++ bytes_of_header
    (record { body_size = body; content = content; parameters = parameters_with name mime version })
unfolding bytes_of_header
header-appended out name mime body version content size e =
    let texts : List Parameter = map (text_parameter 16) (option_to_list mime) in
    rw (
      e,
      ← length-extension name mime version,
      flat_map-append bytes_of_parameter texts (OneByte 6 version ∷ []),
    ) (simp append_assoc)
