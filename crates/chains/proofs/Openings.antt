-- The least start of a ring, where the list is parted.
use Rattle.std.proofs.Common.{◌≡◌, ℕ, suc, ◌+◌, Bool, true, false, cond, not, List, [], ◌∷◌, ◌++◌, length, inl, inr, refl, sym, ap, ◌∙◌, subst, arith, append_assoc}
use Rattle.std.specs.Cmp.{IsTotalOrder, then_total, on_total, tied_itself, upto, bool_cmp_total}
use Rattle.std.specs.Ordering.{is_lt, is_gt, bool_cmp, ordering_then}
use Rattle.std.specs.declared.cmp.Ordering.{Ordering}
use Rattle.std.specs.declared.cmp.Ordering.TheVariants.{Less, Equal, Greater}
use Rattle.std.proofs.lemmas.List.{length-append}
use Rattle.grid.specs.declared.pos.Pos.{Pos}
use Rattle.lines.specs.Turned.{position_cmp}
use Rattle.theory.specs.Lists.{Has}
use Rattle.chains.specs.Starts.{start_of, start_cmp, starts_from, least_from, start_index}
use Rattle.chains.specs.declared.starts.RingStart.{RingStart}
use Rattle.lines.proofs.SortedLists.{not_less}
use Rattle.lines.specs.Positions.{position_total}
use Rattle.theory.proofs.Lists.{Has-append, append_nil}

pub start_total : IsTotalOrder start_cmp
start_total =
    then_total (on_total (λ (s : RingStart). s.passed) bool_cmp_total)
    (then_total (on_total (λ (s : RingStart). s.from) position_total) (on_total (λ (s : RingStart). s.to) position_total))

-- the start at the place i is the least
pub record LeastAt (l : List RingStart) (i : ℕ) : Type 0 where
  pub before : List RingStart
  pub here : RingStart
  pub behind : List RingStart
  pub parted : l ≡ before ++ (here ∷ behind)
  pub place : i ≡ length before
  pub least : (s : RingStart) → Has s l → is_gt (start_cmp here s) ≡ false

less_not_more : (r : Ordering) → is_lt r ≡ true → is_gt r ≡ false
less_not_more Less e = refl
less_not_more Equal e = refl
less_not_more Greater e = cc

most_self : (s : RingStart) → is_gt (start_cmp s s) ≡ false
most_self s = ap is_gt (tied_itself start_total s)

least_from_at : (ks done a : List RingStart) (m : RingStart) (b : List RingStart) (best i : ℕ) → done ≡ a ++ (m ∷ b) → best ≡ length a → i ≡ length done →
    ((s : RingStart) → Has s done → is_gt (start_cmp m s) ≡ false) → LeastAt (done ++ ks) (least_from best m i ks)
least_from_at [] done a m b best i e f g h = record {
  before = a;
  here = m;
  behind = b;
  parted = append_nil done ∙ e;
  place = f;
  least = λ s k. h s (subst (λ w. Has s w) (append_nil done) k);
}
least_from_at (s ∷ ks) done a m b best i e f g h =
    subst (λ w. LeastAt w (least_from best m i (s ∷ ks))) (append_assoc done (s ∷ []) ks) (go (is_lt (start_cmp s m)) refl (least_from_at ks))
  where
    longer : i + 1 ≡ length (done ++ (s ∷ []))
    longer = let q = length-append done (s ∷ []) in omega arith

    go : (c : Bool) → is_lt (start_cmp s m) ≡ c →
        ((done a : List RingStart) (m : RingStart) (b : List RingStart) (best i : ℕ) → done ≡ a ++ (m ∷ b) → best ≡ length a → i ≡ length done →
        ((s : RingStart) → Has s done → is_gt (start_cmp m s) ≡ false) → LeastAt (done ++ ks) (least_from best m i ks)) →
        LeastAt ((done ++ (s ∷ [])) ++ ks) (least_from (cond c i best) (cond c s m) (i + 1) ks)
    go true p ih =
        ih (done ++ (s ∷ [])) done s [] i (i + 1) refl g longer
        (λ t k. elim (Has-append t done (s ∷ []) k) [
          | inl j ↦ upto start_total s m t (less_not_more (start_cmp s m) p) (h t j)
          | inr j ↦ elim j [ inl q ↦ subst (λ w. is_gt (start_cmp s w) ≡ false) (sym q) (most_self s) | inr z ↦ absurd z ]
        ])
    go false p ih =
        ih (done ++ (s ∷ [])) a m (b ++ (s ∷ [])) best (i + 1) (ap (λ w. w ++ (s ∷ [])) e ∙ append_assoc a (m ∷ b) (s ∷ [])) f longer
        (λ t k. elim (Has-append t done (s ∷ []) k) [
          | inl j ↦ h t j
          | inr j ↦ elim j [
            | inl q ↦ subst (λ w. is_gt (start_cmp m w) ≡ false) (sym q) (not_less start_cmp start_total (start_cmp s m) (start_cmp m s) (start_total.antisymm s m) p)
            | inr z ↦ absurd z
          ]
        ])

abbrev pub starts_list : (Pos → Bool) → Pos → List Pos → List RingStart
starts_list stop first [] = []
starts_list stop first (x ∷ l) = starts_from stop first x l

abbrev pub head_or : Pos → List Pos → Pos
head_or x [] = x
head_or x (y ∷ l) = y

pub index_least : (stop : Pos → Bool) (x y : Pos) (r : List Pos) →
    LeastAt (starts_list stop x (x ∷ (y ∷ r))) (start_index stop (x ∷ (y ∷ r)))
index_least stop x y r =
    least_from_at (starts_from stop x y r) (start_of stop x y ∷ []) [] (start_of stop x y) [] 0 1 refl refl refl
    (λ s h. elim h [ inl p ↦ subst (λ w. is_gt (start_cmp (start_of stop x y) w) ≡ false) (sym p) (most_self (start_of stop x y)) | inr z ↦ absurd z ])

-- a place among the starts is a place of the list
pub record Opening (stop : Pos → Bool) (first : Pos) (l : List Pos) (before : List RingStart) (k : RingStart) : Type 0 where
  pub vertex : Pos
  pub left : List Pos
  pub right : List Pos
  pub parted : l ≡ left ++ (vertex ∷ right)
  pub place : length left ≡ length before
  pub is : k ≡ start_of stop vertex (head_or first right)

no_parted : {A : Type 0} (a : List A) (k : A) (b : List A) → ¬ ([] ≡ a ++ (k ∷ b))
no_parted [] k b e = cc
no_parted (x ∷ a) k b e = cc

pub opening : (stop : Pos → Bool) (first here : Pos) (rest : List Pos) (before : List RingStart) (k : RingStart) (behind : List RingStart) →
    starts_from stop first here rest ≡ before ++ (k ∷ behind) → Opening stop first (here ∷ rest) before k
opening stop first here [] [] k behind e =
    record { vertex = here; left = []; right = []; parted = refl; place = refl; is = cc }
opening stop first here [] (b ∷ before) k behind e =
    absurd (no_parted before k behind (let h : start_of stop here first ∷ [] ≡ b ∷ (before ++ (k ∷ behind)) = e in cc))
opening stop first here (next ∷ rest) [] k behind e =
    record { vertex = here; left = []; right = next ∷ rest; parted = refl; place = refl; is = cc }
opening stop first here (next ∷ rest) (b ∷ before) k behind e =
    let h : start_of stop here next ∷ starts_from stop first next rest ≡ b ∷ (before ++ (k ∷ behind)) = e in
    let t = opening stop first next rest before k behind cc in
    record { vertex = t.vertex; left = here ∷ t.left; right = t.right; parted = ap (λ w. here ∷ w) t.parted; place = ap suc t.place; is = t.is }

-- each place of the list is among the starts
pub start_there : (stop : Pos → Bool) (first : Pos) (left : List Pos) (x : Pos) (right : List Pos) →
    Has (start_of stop x (head_or first right)) (starts_list stop first (left ++ (x ∷ right)))
start_there stop first [] x [] = inl refl
start_there stop first [] x (y ∷ right) = inl refl
start_there stop first (a ∷ []) x right = inr (start_there stop first [] x right)
start_there stop first (a ∷ (b ∷ left)) x right = inr (start_there stop first (b ∷ left) x right)

-- behind a stop, only a lesser vertex starts before it
pub not_lesser : (stop : Pos → Bool) (best : RingStart) (a b : Pos) → best.passed ≡ false → is_gt (position_cmp a best.from) ≡ true →
    is_lt (start_cmp (start_of stop a b) best) ≡ false
not_lesser stop best a b e g = go (stop a) best.passed (position_cmp a best.from) e g
  where
    go : (s p : Bool) (r : Ordering) → p ≡ false → is_gt r ≡ true → is_lt (ordering_then (bool_cmp (not s) p) (ordering_then r (position_cmp b best.to))) ≡ false
    go s true r e g = absurd cc
    go s false Less e g = absurd cc
    go s false Equal e g = absurd cc
    go true false Greater e g = refl
    go false false Greater e g = refl
