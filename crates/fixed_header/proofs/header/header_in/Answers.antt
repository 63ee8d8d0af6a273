-- Each field is the definition's.
use Rattle.fixed_header.specs.Header.{id_of, version_of}
use Rattle.fixed_header.proofs.header.header_in.Goals as goal

pub returns : goal.returns
unfolding id_of version_of
returns c = rw (c.of_types.ensures, c.total.ensures, c.header_size.ensures.0, c.be32.ensures, c.version.ensures)
