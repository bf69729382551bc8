-- `job_format::form_of` meets its contract: each bit by itself, and the three that have a byte together. Assumes nothing.
use Rattle.std.proofs.Common.{sym, arith}
use Rattle.std.proofs.lemmas.Bool.{le-leb, lt-leb}
use Rattle.semigroups.specs.Lists.{every, member_of}
use Rattle.job_format.specs.Format.{field_width, version_has}
use Rattle.job_format.proofs.Format.{byte_bits, no_bits}
use Rattle.job_format.proofs.form_of.Goals as goal

pub returns-in-3 : goal.returns-in-3
unfolding field_width version_has member_of every
returns-in-3 c = rw c.in-3.is

pub returns-in-4 : goal.returns-in-4
unfolding field_width version_has member_of every
returns-in-4 c = rw (c.in-4.is, lt-leb 2 c.args.version (omega arith))

pub returns-in-4-2 : goal.returns-in-4-2
unfolding field_width version_has member_of every
returns-in-4-2 c = rw (c.in-4.is, le-leb 2 c.args.version (omega arith))

pub returns-in-5 : goal.returns-in-5
unfolding field_width version_has member_of every
returns-in-5 c = rw c.in-5.is

pub returns-in-0-to-2 : goal.returns-in-0-to-2
returns-in-0-to-2 c = let (one, had) = byte_bits c.args.version c.args.bit (omega arith) in rw (sym had, sym one)

pub returns-in-7 : goal.returns-in-7
unfolding field_width version_has member_of every
returns-in-7 c = rw c.in-7.is

pub returns-in_default : goal.returns-in_default
returns-in_default c = let (none, lacking) = no_bits c.args.version c.args.bit (omega arith) (omega arith) (omega arith) (omega arith) (omega arith) in rw (sym lacking)
