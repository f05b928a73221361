-- What holds of the definitions, for the crates above.

-- the next free id is the nearest above the cursor
pub use Rattle.mot_objects.proofs.NextFree.{next_free_id-nearest}
-- commands keep carousels sound
pub use Rattle.mot_objects.proofs.Sound.{change-sound, commands-sound}
-- what an accepted command says of a carousel, and one name more
pub use Rattle.mot_objects.proofs.Sound.{put-cases, named-cases, names-push}
-- names and MIME types, by their rules and by their tests
pub use Rattle.mot_objects.proofs.Texts.{name_true, name_is, mime_true, mime_is}
