use Rattle.std.proofs.Common.{refl}
use Rattle.mot_directory.specs.Inner.{header_beside}
use Rattle.mot_directory.proofs.Beside.{header_of-object_of}
use Rattle.mot_directory.proofs.Described.{description_in-parameters_with}
use Rattle.mot_directory.proofs.ReadBack.{read_header-bytes_of_header, take-header_size_in}
use Rattle.mot_directory.proofs.header.header_bytes.Goals as goal

pub returns-in_err-out-clause-reads_back : goal.returns-in_err-out-clause-reads_back
returns-in_err-out-clause-reads_back c = read_header-bytes_of_header

pub returns-in_err-out-clause-cut : goal.returns-in_err-out-clause-cut
returns-in_err-out-clause-cut c = take-header_size_in

pub returns-in_err-out-clause-described : goal.returns-in_err-out-clause-described
returns-in_err-out-clause-described c = λ o. description_in-parameters_with o.name o.mime o.version

pub returns-clause-reads : goal.returns-clause-reads
returns-clause-reads c =
    λ body e.
    rw (
      header_of-object_of c.args.object.now body e,
      c.append_header.ensures.items,
      c.in_ok-out.ensures.items,
    ) (read_header-bytes_of_header (header_beside c.args.object.now) c.append_header.ensures.fits)

pub returns-clause-written : goal.returns-clause-written
returns-clause-written c =
    λ body e.
    rw (
      header_of-object_of c.args.object.now body e,
      c.append_header.ensures.items,
      c.in_ok-out.ensures.items,
    ) refl

pub returns-clause-fits : goal.returns-clause-fits
returns-clause-fits c =
    λ body e. rw (header_of-object_of c.args.object.now body e) c.append_header.ensures.fits

pub returns-clause-bytes : goal.returns-clause-bytes
returns-clause-bytes c = c.append_header.ensures.bytes

pub returns-clause-reads_back : goal.returns-clause-reads_back
returns-clause-reads_back c = read_header-bytes_of_header

pub returns-clause-cut : goal.returns-clause-cut
returns-clause-cut c = take-header_size_in

pub returns-clause-described : goal.returns-clause-described
returns-clause-described c = λ o. description_in-parameters_with o.name o.mime o.version
