use Rattle.std.proofs.Common.{length, ◌+◌, ◌*◌, ◌≤◌}
use Rattle.fault_reports.specs.FaultPlaces.{AreUpTo}
use Rattle.fault_reports.proofs.places.+place.Given as goal

abbrev pub decreases-place_value : goal.decreases-place_value
decreases-place_value l = 2 * l.left

abbrev pub decreases-place_members : goal.decreases-place_members
decreases-place_members l = 2 * l.left + 1

abbrev pub decreases-place_items : goal.decreases-place_items
decreases-place_items l = 2 * l.left + 1

abbrev pub invariant-place_members-members : goal.invariant-place_members-members
invariant-place_members-members l = record { shorter : length l.reader ≤ length l.initial.reader; within : AreUpTo (length l.text.bytes.now) l.initial.places → AreUpTo (length l.text.bytes.now) l.places }

abbrev pub decreases-place_members-members : goal.decreases-place_members-members
decreases-place_members-members l = length l.reader

abbrev pub invariant-place_items-items : goal.invariant-place_items-items
invariant-place_items-items l = record { shorter : length l.reader ≤ length l.initial.reader; within : AreUpTo (length l.text.bytes.now) l.initial.places → AreUpTo (length l.text.bytes.now) l.places }

abbrev pub decreases-place_items-items : goal.decreases-place_items-items
decreases-place_items-items l = length l.reader
