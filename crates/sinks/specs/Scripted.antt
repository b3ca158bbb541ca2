-- What a script answers.
use Rattle.std.specs.Prelude.{◌≡◌, ℕ, ◌+◌, ◌-◌, ◌^◌, ◌<◌, ◌⊎◌, List, [], ◌∷◌, length, take, drop, min, Result, IfOk, IsErr, Some, vec_len, vec_capacity}
use Rattle.sinks.specs.Seen.{Seen}
use Rattle.sinks.specs.Writes.{TookAndFailed}
use Rattle.sinks.specs.declared.script.Answer.{Answer}
use Rattle.sinks.specs.declared.script.Answer.TheVariants.{Take, Fail, FailAfter}
use Rattle.sinks.specs.declared.script.Script.{Script}

-- what contracts see of a script
abbrev pub seen_of : Script → Seen
seen_of s = record { bytes = Some s.taken.items; failures = s.failures }

-- the answers that the script has still to give, in order
abbrev pub answers_left : Script → List Answer
answers_left s = drop s.next s.answers.items

-- the next answer; past the list's end all is taken
abbrev pub next_of : List Answer → Answer
next_of [] = Take (2 ^ 64 - 1)
next_of (a ∷ l) = a

-- the offer of a piece has this answer: as many bytes are taken as it says, or it fails; running out of memory fails any offer
abbrev pub IsAnswered : {E : Type 0} → List ℕ → Result ℕ E → Answer → Type 0
IsAnswered piece r (Take most) = IfOk r (λ n. n ≡ min most (length piece))
IsAnswered piece r Fail = IsErr r
IsAnswered piece r (FailAfter most) = IsErr r

-- the script can't take so many bytes more without memory
abbrev pub LacksRoom : Script → ℕ → Type 0
LacksRoom s n = vec_capacity s.taken < vec_len s.taken + n

-- a failed offer took as many bytes of the piece as the answer says, or none where memory was refused, of which there was need
abbrev pub FailsAs : Seen → Seen → (ℕ → Type 0) → List ℕ → Answer → Type 0
FailsAs old new needs_memory piece (Take most) = TookAndFailed old new [] × needs_memory (min most (length piece))
FailsAs old new needs_memory piece Fail = TookAndFailed old new []
FailsAs old new needs_memory piece (FailAfter most) =
    TookAndFailed old new (take (min most (length piece)) piece)
    ⊎ (TookAndFailed old new [] × needs_memory (min most (length piece)))
