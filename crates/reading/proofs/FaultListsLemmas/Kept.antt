-- Faults that were found of a whole, from those that were found of its parts.
use Rattle.std.proofs.Common.{◌≡◌, List, [], ◌∷◌, ◌++◌, true, false, refl, sym, ap, ◌∙◌, subst, append_assoc, append-nil}
use Rattle.faults.specs.Path.{Turn}
use Rattle.faults.specs.Fault.{Pair}
use Rattle.faults.specs.declared.fault.FaultKind.{FaultKind}
use Rattle.reading.specs.Fault.{here, under}
use Rattle.reading.specs.FaultLists.Found.{kept, is_full, AreFound, AtMostOne}
use Rattle.reading.specs.declared.fault_lists.found.Wanted.{Wanted}
use Rattle.reading.specs.declared.fault_lists.found.Wanted.TheVariants.{First, All}

pub found_none : (w : Wanted) → AreFound w [] []
found_none First = record { are = refl }
found_none All = record { are = refl }

kept_under : (w : Wanted) (t : Turn) (ps : List Pair) → under t (kept w ps) ≡ kept w (under t ps)
kept_under All t ps = refl
kept_under First t [] = refl
kept_under First t (p ∷ ps) = refl

pub found_under : (w : Wanted) (t : Turn) (ps qs : List Pair) → AreFound w ps qs → AreFound w (under t ps) (under t qs)
found_under w t ps qs h = record { are = ap (under t) h.are ∙ kept_under w t ps }

kept_more : (w : Wanted) (ps qs fs gs : List Pair) → fs ≡ kept w ps → gs ≡ kept w qs → is_full w fs ≡ false → fs ++ gs ≡ kept w (ps ++ qs)
kept_more All ps qs fs gs f g more = cc
kept_more First [] qs fs gs f g more = rw (f, g) refl
kept_more First (p ∷ ps) qs fs gs f g more = let full = ap (is_full First) f in cc

pub found_more : (w : Wanted) (ps qs fs gs : List Pair) → AreFound w ps fs → AreFound w qs gs → is_full w fs ≡ false → AreFound w (ps ++ qs) (fs ++ gs)
found_more w ps qs fs gs f g more = record { are = kept_more w ps qs fs gs f.are g.are more }

kept_enough : (w : Wanted) (ps qs fs : List Pair) → fs ≡ kept w ps → is_full w fs ≡ true → fs ≡ kept w (ps ++ qs)
kept_enough All ps qs fs f full = absurd cc
kept_enough First [] qs fs f full = let none = ap (is_full First) f in absurd cc
kept_enough First (p ∷ ps) qs fs f full = f

pub found_enough : (w : Wanted) (ps qs fs : List Pair) → AreFound w ps fs → is_full w fs ≡ true → AreFound w (ps ++ qs) fs
found_enough w ps qs fs f full = record { are = kept_enough w ps qs fs f.are full }

-- ---- one part after another

-- these were found before what is left, and more are wanted
pub record FoundSoFar (w : Wanted) (all left found : List Pair) : Type 0 where
  pub before : List Pair
  pub parts : all ≡ before ++ left
  pub are : AreFound w before found
  pub more : is_full w found ≡ false

pub so_far_none : (w : Wanted) (all : List Pair) → FoundSoFar w all all []
so_far_none w all = record { before = []; parts = refl; are = found_none w; more = not_full w }
  where
    not_full : (w : Wanted) → is_full w [] ≡ false
    not_full First = refl
    not_full All = refl

found_next : (w : Wanted) (t : Turn) (all part left found new now : List Pair) → (h : FoundSoFar w all (under t part ++ left) found) → AreFound w part new → now ≡ found ++ under t new
    → AreFound w (h.before ++ under t part) now
found_next w t all part left found new now h one is =
    subst (AreFound w (h.before ++ under t part)) (sym is) (found_more w h.before (under t part) found (under t new) h.are (found_under w t part new one) h.more)

next_parts : (w : Wanted) (t : Turn) (all part left found : List Pair) → (h : FoundSoFar w all (under t part ++ left) found) → all ≡ (h.before ++ under t part) ++ left
next_parts w t all part left found h = h.parts ∙ sym (append_assoc h.before (under t part) left)

pub so_far_next : (w : Wanted) (t : Turn) (all part left found new now : List Pair) → FoundSoFar w all (under t part ++ left) found → AreFound w part new → now ≡ found ++ under t new
    → is_full w now ≡ false → FoundSoFar w all left now
so_far_next w t all part left found new now h one is more = record {
  before = h.before ++ under t part;
  parts = next_parts w t all part left found h;
  are = found_next w t all part left found new now h one is;
  more = more;
}

pub so_far_enough : (w : Wanted) (t : Turn) (all part left found new now : List Pair) → FoundSoFar w all (under t part ++ left) found → AreFound w part new → now ≡ found ++ under t new
    → is_full w now ≡ true → AreFound w all now
so_far_enough w t all part left found new now h one is full =
    subst (λ ps. AreFound w ps now) (sym (next_parts w t all part left found h)) (found_enough w (h.before ++ under t part) left now (found_next w t all part left found new now h one is) full)

pub so_far_all : (w : Wanted) (all found : List Pair) → FoundSoFar w all [] found → AreFound w all found
so_far_all w all found h = subst (λ ps. AreFound w ps found) (sym (h.parts ∙ append-nil h.before)) h.are

-- ---- answers

-- where none was found there is none
pub none_found : (w : Wanted) (ps : List Pair) → AreFound w ps [] → ps ≡ []
none_found w ps h = go w ps h.are
  where
    go : (w : Wanted) (ps : List Pair) → [] ≡ kept w ps → ps ≡ []
    go All ps h = sym h
    go First [] h = refl
    go First (p ∷ ps) h = cc

-- of a list of one or none, all are found either way
kept_short : (w : Wanted) (ps : List Pair) → kept First ps ≡ ps → kept w ps ≡ ps
kept_short First ps short = short
kept_short All ps short = refl

pub found_same : (w : Wanted) (ps qs : List Pair) → AtMostOne ps qs → AreFound w ps qs
found_same w ps qs h = record { are = h.same ∙ sym (kept_short w ps h.short) }

pub one_here : (k : FaultKind) (qs : List Pair) → qs ≡ here k → AtMostOne (here k) qs
one_here k qs is = record { same = is; short = refl }

pub one_none : AtMostOne [] []
one_none = record { same = refl; short = refl }

pub one_under : (t : Turn) (ps qs rs : List Pair) → AtMostOne ps qs → rs ≡ under t qs → AtMostOne (under t ps) rs
one_under t ps qs rs h is = record { same = is ∙ ap (under t) h.same; short = sym (kept_under First t ps) ∙ ap (under t) h.short }
