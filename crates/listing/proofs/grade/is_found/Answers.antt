-- `is_found` follows the links from the bucket's head. Assumes nothing.
use native.Mathlib.Omega.{arith}
use Rattle.lent.specs.Parts.{bytes_of}
use Rattle.tables.specs.by_name.NamedLaws.{bucket-small}
use Rattle.listing.proofs.grade.is_found.Goals as goal

pub overflow_add-shared : goal.overflow_add-shared
overflow_add-shared c =
    omega (arith, c.bucket-shared.ensures, bucket-small c.args.key (bytes_of c.args.library.now c.args.name))

pub returns : goal.returns
returns c =
    rw (c.find.ensures, c.head_at-head.ensures, c.bucket-shared.ensures)
