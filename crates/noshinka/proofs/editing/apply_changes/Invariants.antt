-- What becomes of the map now by the changes that are left, becomes of the first by all; and what refuses one of these refuses all.
use Rattle.std.proofs.Common.{◌≡◌, ◌+◌, drop}
use Rattle.shapes.specs.Maps.{Layers}
use Rattle.noshinka.specs.Editing.{AreChanged, IsFirstChange}
use Rattle.c_calls.specs.declared.refusal.CallRefusal.{CallRefusal}
use Rattle.noshinka.proofs.editing.apply_changes.Given as goal

abbrev pub invariant-loop-number : goal.invariant-loop-number
invariant-loop-number l = record {
  grid : l.session.grid ≡ l.fn.session.grid;
  changed : (n : Layers) → AreChanged l.fn.session.grid l.session.map (drop l.number l.fn.changes) n → AreChanged l.fn.session.grid l.fn.session.map l.fn.changes n;
  refused : (r : CallRefusal) → IsFirstChange l.fn.session.grid (l.number + 1) (drop l.number l.fn.changes) r → IsFirstChange l.fn.session.grid 1 l.fn.changes r;
}
