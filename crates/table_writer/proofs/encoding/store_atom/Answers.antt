use Rattle.table_writer.specs.Written.{nine_stored}
use native.Mathlib.Omega.{arith}
use Prim.Native.Nat.{◌+◌, ◌<◌}
use lib.ListN.{length, length-set}
use Rattle.table_format.specs.Format.{record_to}
use Rattle.table_writer.proofs.encoding.store_atom.Goals as goal

pub bounds-output-at-2 : goal.bounds-output-at-2
bounds-output-at-2 c = let h : c.args.at + 1 < length c.args.output.now = (let p = c.requires in omega arith) in rw (length-set) h

pub bounds-output-at-3 : goal.bounds-output-at-3
bounds-output-at-3 c = let h : c.args.at + 2 < length c.args.output.now = (let p = c.requires in omega arith) in rw (length-set, length-set) h

pub bounds-output-at-4 : goal.bounds-output-at-4
bounds-output-at-4 c = let h : c.args.at + 3 < length c.args.output.now = (let p = c.requires in omega arith) in rw (length-set, length-set, length-set) h

pub bounds-output-at-5 : goal.bounds-output-at-5
bounds-output-at-5 c = let h : c.args.at + 4 < length c.args.output.now = (let p = c.requires in omega arith) in rw (length-set, length-set, length-set, length-set) h

pub bounds-output-at-6 : goal.bounds-output-at-6
bounds-output-at-6 c = let h : c.args.at + 5 < length c.args.output.now = (let p = c.requires in omega arith) in rw (length-set, length-set, length-set, length-set, length-set) h

pub bounds-output-at-7 : goal.bounds-output-at-7
bounds-output-at-7 c = let h : c.args.at + 6 < length c.args.output.now = (let p = c.requires in omega arith) in rw (length-set, length-set, length-set, length-set, length-set, length-set) h

pub bounds-output-at-8 : goal.bounds-output-at-8
bounds-output-at-8 c = let h : c.args.at + 7 < length c.args.output.now = (let p = c.requires in omega arith) in rw (length-set, length-set, length-set, length-set, length-set, length-set, length-set) h

pub bounds-output-at-9 : goal.bounds-output-at-9
bounds-output-at-9 c = let h : c.args.at + 8 < length c.args.output.now = (let p = c.requires in omega arith) in rw (length-set, length-set, length-set, length-set, length-set, length-set, length-set, length-set) h

pub shape_of-output : goal.shape_of-output
shape_of-output c = simp (length-set)

pub returns : goal.returns
unfolding record_to
returns c = rw (← c.bits-bits.ensures) (nine_stored c.args.output.now c.args.at _ _ _ _ _ _ _ _ _)
