-- A list of the segments of any arcs.
use Rattle.std.proofs.Common.{◌≡◌, ◌↔◌, ℕ, List, [], ◌∷◌, ◌⊎◌, inl, inr, sym, ap, ◌∙◌}
use Rattle.grid.specs.declared.pos.Pos.{Pos}
use Rattle.lines.specs.Pairs.{pair_of}
use Rattle.chains.specs.Joined.{AmongSegments}
use Rattle.chains.specs.Segments.{IsBetween}
use Rattle.chains.specs.declared.segment.Segment.{Segment}
use Rattle.lines.proofs.Pairs.{pair_ordered, pair_between}
use Rattle.lines.proofs.Positions.{position_decide}
use Rattle.chains.specs.Along.{arc_at, Joins, SidesFrom, SidesOf, HasArcs}

-- two positions that differ are the ends of a segment
segment_between : (a b : Pos) → ¬ (a ≡ b) → (s : Segment) × IsBetween a b s
segment_between a b n = (record { ends = pair_of a b; ordered = pair_ordered a b n }, pair_between a b)

-- the ends of the segment are these two
same_ends : (a b u v : Pos) (s : Segment) → ¬ (a ≡ b) → IsBetween a b s → (((u ≡ s.ends.lesser) × (v ≡ s.ends.greater)) ⊎ ((u ≡ s.ends.greater) × (v ≡ s.ends.lesser))) ↔ Joins a b u v
same_ends a b u v s n (inl e) =
    let x : s.ends.lesser ≡ a = ap (λ w. w.0) e in
    let y : s.ends.greater ≡ b = ap (λ w. w.1) e in (
      (λ h. (n, elim h [ inl k ↦ inl (k.0 ∙ x, k.1 ∙ y) | inr k ↦ inr (k.0 ∙ y, k.1 ∙ x) ])),
      (λ h. elim h.1 [ inl k ↦ inl (k.0 ∙ sym x, k.1 ∙ sym y) | inr k ↦ inr (k.0 ∙ sym y, k.1 ∙ sym x) ]),
    )
same_ends a b u v s n (inr e) =
    let x : s.ends.lesser ≡ b = ap (λ w. w.0) e in
    let y : s.ends.greater ≡ a = ap (λ w. w.1) e in (
      (λ h. (n, elim h [ inl k ↦ inr (k.0 ∙ x, k.1 ∙ y) | inr k ↦ inl (k.0 ∙ y, k.1 ∙ x) ])),
      (λ h. elim h.1 [ inl k ↦ inr (k.0 ∙ sym y, k.1 ∙ sym x) | inr k ↦ inl (k.0 ∙ sym x, k.1 ∙ sym y) ]),
    )

-- a list of segments that has what S and the list l have
abbrev With : (Pos → Pos → Type 0) → List Segment → Type 0
With S l = (new : List Segment) × ((u v : Pos) → AmongSegments u v new ↔ (S u v ⊎ AmongSegments u v l))

with_joined : (a b : Pos) (l : List Segment) → With (Joins a b) l
with_joined a b l =
    elim (position_decide a b) [
      | inl e ↦ (l, λ u v. ((λ h. inr h), (λ h. elim h [ inl k ↦ absurd (k.0 e) | inr k ↦ k ])))
      | inr n ↦ (let t = segment_between a b n in (
        t.0 ∷ l,
        λ u v. (
          (λ h. elim h [ inl k ↦ inl ((same_ends a b u v t.0 n t.1).0 k) | inr k ↦ inr k ]),
          (λ h. elim h [ inl k ↦ inl ((same_ends a b u v t.0 n t.1).1 k) | inr k ↦ inr k ]),
        ),
      ))
    ]

with_sides : (x : Pos) (r : List Pos) (l : List Segment) → With (SidesFrom x r) l
with_sides x [] l = (l, λ u v. ((λ h. inr h), (λ h. elim h [ inl k ↦ absurd k | inr k ↦ k ])))
with_sides x (y ∷ r) l =
    let rest = with_sides y r l in
    let all = with_joined x y rest.0 in (
      all.0,
      λ u v. (
        (λ h. elim ((all.1 u v).0 h) [ inl k ↦ inl (inl k) | inr k ↦ elim ((rest.1 u v).0 k) [ inl j ↦ inl (inr j) | inr j ↦ inr j ] ]),
        (λ h. (all.1 u v).1 (elim h [ inl k ↦ elim k [ inl j ↦ inl j | inr j ↦ inr ((rest.1 u v).1 (inl j)) ] | inr k ↦ inr ((rest.1 u v).1 (inr k)) ])),
      ),
    )

with_arc : (c : List Pos) (l : List Segment) → With (SidesOf c) l
with_arc [] l = (l, λ u v. ((λ h. inr h), (λ h. elim h [ inl k ↦ absurd k | inr k ↦ k ])))
with_arc (x ∷ r) l = with_sides x r l

-- the segments of the arcs of these numbers
pub segments_on : (arcs : List (List Pos)) (ks : List ℕ) → (segs : List Segment) × HasArcs arcs ks segs
segments_on arcs [] = ([], λ u v. ((λ h. h), (λ h. h)))
segments_on arcs (k ∷ ks) =
    let rest = segments_on arcs ks in
    let all = with_arc (arc_at arcs k) rest.0 in (
      all.0,
      λ u v. (
        (λ h. elim ((all.1 u v).0 h) [ inl j ↦ inl j | inr j ↦ inr ((rest.1 u v).0 j) ]),
        (λ h. (all.1 u v).1 (elim h [ inl j ↦ inl j | inr j ↦ inr ((rest.1 u v).1 j) ])),
      ),
    )
