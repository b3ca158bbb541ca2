-- The least fault of a whole, from those of its parts.
use Rattle.std.proofs.Common.{◌≡◌, zero, suc, List, [], ◌∷◌, ◌++◌, map, refl, sym, ap, subst, arith}
use Rattle.std.specs.List.{All, Contains}
use Rattle.std.specs.declared.cmp.Ordering.TheVariants.{Less, Equal}
use Rattle.std.proofs.lemmas.List.Elements.{All-append, All-map, All-nil, All-cons, All-weaker, Contains-append_left}
use Rattle.std.proofs.lemmas.Cmp.{nat_list_cmp_total, nat_cmp_total, tied_itself}
use Rattle.faults.specs.Path.{Turn, name, index}
use Rattle.faults.specs.Fault.{Pair, prefixed, Lifted, pair_of, number_of}
use Rattle.reading.specs.Fault.{turn_cmp, here, under, IsUpto, IsLeast, LeastOrWant}
use Rattle.faults.specs.declared.fault.FaultKind.{FaultKind}
use Rattle.faults.specs.declared.fault.FaultKind.TheVariants.{OutOfMemory}
use Rattle.faults.specs.declared.fault.Fault.{Fault}

pub turn_itself : (t : Turn) → turn_cmp t t ≡ Equal
turn_itself (name s) = tied_itself nat_list_cmp_total s
turn_itself (index i) = tied_itself nat_cmp_total i

-- a path that begins with a later turn
abbrev pub BeginsAfter : Turn → List Turn → Type 0
BeginsAfter t [] = ⊥
BeginsAfter t (u ∷ us) = turn_cmp t u ≡ Less

pub record After (t : Turn) (ps : List Pair) : Type 0 where
  pub all : All (λ p. BeginsAfter t p.path) ps

pub after_none : (t : Turn) → After t []
after_none t = record { all = All-nil _ }

pub after_under : (t u : Turn) (ps : List Pair) → turn_cmp t u ≡ Less → After t (under u ps)
after_under t u ps less = record { all = All-map (λ p. BeginsAfter t p.path) (prefixed u) ps (λ k d h. less) }

pub after_append : (t : Turn) (ps qs : List Pair) → After t ps → After t qs → After t (ps ++ qs)
after_append t ps qs a b = record { all = All-append (λ p. BeginsAfter t p.path) ps qs a.all b.all }

Contains-map : (f : Pair → Pair) (ps : List Pair) (p : Pair) → Contains ps p → Contains (map f ps) (f p)
Contains-map f [] p h = absurd (omega (arith, h.1))
Contains-map f (q ∷ ps) p (zero, less, is) = (0, omega arith, ap f is)
Contains-map f (q ∷ ps) p (suc k, less, is) =
    let later = Contains-map f ps p (k, omega arith, is) in
    (suc later.0, omega (arith, later.1), later.2)

upto_prefixed : (t : Turn) (p q : Pair) → IsUpto p q → IsUpto (prefixed t p) (prefixed t q)
upto_prefixed t p q h = rw (turn_itself t) h

upto_path : (t : Turn) (p q : Pair) (us : List Turn) → q.path ≡ us → BeginsAfter t us → IsUpto (prefixed t p) q
upto_path t p q [] is h = absurd h
upto_path t p q (u ∷ us) is h = rw (is, h)

upto_after : (t : Turn) (p q : Pair) → BeginsAfter t q.path → IsUpto (prefixed t p) q
upto_after t p q h = upto_path t p q q.path refl h

upto_itself : (k : FaultKind) → IsUpto (record { path = []; kind = k }) (record { path = []; kind = k })
upto_itself k = rw (tied_itself nat_cmp_total (number_of k)) refl

pub least_here : (k : FaultKind) → IsLeast (here k) (record { path = []; kind = k })
least_here k = record {
  present = (0, omega arith, refl);
  first = All-cons (IsUpto (record { path = []; kind = k })) (record { path = []; kind = k }) [] (upto_itself k) (All-nil _);
}

-- the one fault of a value itself
pub only : (k : FaultKind) (f : Fault) → pair_of f ≡ record { path = []; kind = k } → LeastOrWant (here k) f
only k f is = record { least = λ real. subst (IsLeast (here k)) (sym is) (least_here k) }

pub only_of : (k : FaultKind) (ps : List Pair) (f : Fault) → pair_of f ≡ record { path = []; kind = k } → ps ≡ here k → LeastOrWant ps f
only_of k ps f is same = subst (λ qs. LeastOrWant qs f) (sym same) (only k f is)

pub from_want : (ps : List Pair) (f : Fault) → f.kind ≡ OutOfMemory → LeastOrWant ps f
from_want ps f want = record { least = λ real. absurd (real want) }

pub least_under : (t : Turn) (ps : List Pair) (p : Pair) → IsLeast ps p → IsLeast (under t ps) (prefixed t p)
least_under t ps p h = record {
  present = Contains-map (prefixed t) ps p h.present;
  first = All-map (IsUpto (prefixed t p)) (prefixed t) ps (All-weaker (IsUpto p) _ (λ q. upto_prefixed t p q) ps h.first);
}

-- faults further on do not count
pub least_before : (t : Turn) (ps qs : List Pair) (p : Pair) → IsLeast ps p → After t qs → IsLeast (under t ps ++ qs) (prefixed t p)
least_before t ps qs p h later =
    let inner = least_under t ps p h in record {
      present = Contains-append_left (under t ps) qs _ inner.present;
      first = All-append (IsUpto (prefixed t p)) (under t ps) qs inner.first (All-weaker (λ q. BeginsAfter t q.path) _ (λ q. upto_after t p q) qs later.all);
    }

-- a part's fault is the whole's, as nothing before it has any
pub lifted : (t : Turn) (ps qs : List Pair) (old new : Fault) → LeastOrWant ps old → Lifted t old new → After t qs → LeastOrWant (under t ps ++ qs) new
lifted t ps qs old new part up later = record {
  least = λ real. subst (IsLeast (under t ps ++ qs)) (sym (up.at real)) (least_before t ps qs (pair_of old) (part.least (up.was real)) later);
}

-- the same of the last part, where those before it have none
pub lifted_last : (t : Turn) (ps qs : List Pair) (old new : Fault) → LeastOrWant qs old → Lifted t old new → ps ≡ [] → LeastOrWant (ps ++ under t qs) new
lifted_last t ps qs old new part up none = rw none (record {
  least = λ real. subst (IsLeast (under t qs)) (sym (up.at real)) (least_under t qs (pair_of old) (part.least (up.was real)));
})

pub lifted_only : (t : Turn) (qs : List Pair) (old new : Fault) → LeastOrWant qs old → Lifted t old new → LeastOrWant (under t qs) new
lifted_only t qs old new part up = lifted_last t [] qs old new part up refl

begun : (t : Turn) (ps : List Pair) (p : Pair) → Contains (under t ps) p → (q : Pair) × (p ≡ prefixed t q)
begun t [] p h = absurd (omega (arith, h.1))
begun t (q ∷ ps) p (zero, less, is) = (q, sym is)
begun t (q ∷ ps) p (suc k, less, is) = begun t ps p (k, omega arith, is)

least_first : (t : Turn) (ps qs : List Pair) (p : Pair) → IsLeast (under t ps) p → After t qs → IsLeast (under t ps ++ qs) p
least_first t ps qs p h later =
    let front = begun t ps p h.present in record {
      present = Contains-append_left (under t ps) qs p h.present;
      first = All-append (IsUpto p) (under t ps) qs h.first (All-weaker (λ q. BeginsAfter t q.path) _ (λ q a. subst (λ x. IsUpto x q) (sym front.1) (upto_after t front.0 q a)) qs later.all);
    }

-- the faults of a member, before those of later members
pub first_of : (t : Turn) (ps qs : List Pair) (f : Fault) → LeastOrWant (under t ps) f → After t qs → LeastOrWant (under t ps ++ qs) f
first_of t ps qs f part later = record { least = λ real. least_first t ps qs (pair_of f) (part.least real) later }

pub rest_of : (ps qs : List Pair) (f : Fault) → ps ≡ [] → LeastOrWant qs f → LeastOrWant (ps ++ qs) f
rest_of ps qs f none part = rw none part

pub ruleset member_steps = (first_of, rest_of, after_under, after_append)
