-- What holds of the definitions, for the crates above.

-- where no file is told, or passed over, an object was given of each name
pub use Rattle.mot_folder.proofs.Taken.{every_named}
-- and no file is passed over of which nothing was known
pub use Rattle.mot_folder.proofs.Knowing.{none_passed}
