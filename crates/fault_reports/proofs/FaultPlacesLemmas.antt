-- Lemmas on the offsets of errors in a text.
use Rattle.std.proofs.Common.{◌≡◌, ℕ, ◌≤◌, List, [], ◌++◌, arith, drop, length, replicate, sym, subst, take}
use Rattle.std.proofs.lemmas.List.Elements.{All-append, All-drop, All-nil, All-replicate, All-take}
use borrow.Rule.Slice.PartMut.{put_mid}
use Rattle.fault_reports.specs.FaultPlaces.{AreUpTo}

-- after a write of one offset to a part
pub up_to_filled : (n at from count many : ℕ) (offsets written : List ℕ) → at ≤ n → written ≡ replicate many at → AreUpTo n offsets → AreUpTo n (put_mid from count offsets written)
up_to_filled n at from count many offsets written h is old =
    let P : ℕ → Type 0 = λ o. o ≤ n in
    All-append P (take from offsets) (written ++ drop count (drop from offsets)) (All-take P from offsets old)
    (All-append P written (drop count (drop from offsets)) (subst (AreUpTo n) (sym is) (All-replicate P many at h)) (All-drop P count (drop from offsets) (All-drop P from offsets old)))

-- as many zeros, and what becomes of them
pub up_to_start : (n k many : ℕ) (empty start : List ℕ) → empty ≡ [] → start ≡ take k empty ++ replicate many 0 → AreUpTo n start
up_to_start n k many empty start none is =
    let P : ℕ → Type 0 = λ o. o ≤ n in
    subst (AreUpTo n) (sym is) (All-append P (take k empty) (replicate many 0) (All-take P k empty (subst (AreUpTo n) (sym none) (All-nil P))) (All-replicate P many 0 (omega arith)))

pub up_to_kept : (n len : ℕ) (old new : List ℕ) → AreUpTo n old → AreUpTo n new → AreUpTo n (take len (new ++ drop (length new) old))
up_to_kept n len old new h now = let P : ℕ → Type 0 = λ o. o ≤ n in All-take P len (new ++ drop (length new) old) (All-append P new (drop (length new) old) now (All-drop P (length new) old h))
