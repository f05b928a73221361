-- What holds of the definitions, for the crates above.

-- headers and directories whose lengths fit read back
pub use Rattle.mot_directory.proofs.ReadBack.{read_header-bytes_of_header}
pub use Rattle.mot_directory.proofs.ReadBack.{take-header_size_in}
pub use Rattle.mot_directory.proofs.ReadBack.{read_directory-bytes_of_directory}
-- each carousel within the limits has a directory, which reads as it
pub use Rattle.mot_directory.proofs.Fits.{read_directory-directory_of, length-directory_of}
-- an object's parameters describe it
pub use Rattle.mot_directory.proofs.Described.{description_in-parameters_with}
