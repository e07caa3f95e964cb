-- A call that takes no counts neither looks at them nor changes them: with any others it answers the same, leaves the
-- same, and leaves the counts that it found.
use mathlib.Core.Path.{◌≡◌, refl, ap}
use mathlib.Core.Bool.{Bool, true, false, not, ◌&&◌, cond}
use mathlib.Core.List.{List, []}
use Prim.Native.Nat.{ℕ}
use lib.Dec.{eqb}
use Rattle.manual.specs.Configuration.{Configuration}
use Rattle.manual.specs.State.{State}
use Rattle.manual.specs.Answers.{Beside, with_counts, Outcome, refused, Rule, first_that_applies, judged}
use Rattle.manual.specs.Counter.{read_counter}
use Rattle.manual.specs.Missing.{read_missing}
use Rattle.manual.specs.Untested.{read_table, read_paint, list_grey, list_grey_rules}
use Rattle.manual.specs.Calls.{start_cycle, read_status, read_frame}
use Rattle.manual.specs.Image.{save, save_rules}
use Rattle.manual.specs.Counts.{Happening}
use Rattle.manual.specs.Sequences.{Query, ReadStatus, ReadFrame, ReadCounter, ReadMissing, ReadTable, ReadPaint}
use Rattle.manual.specs.Sequences.{ListGrey, Save, Call, Fresh, Report, Tick, Start, Stop, Clear, Read, Restore}
use Rattle.manual.specs.Sequences.{Request, answer_to, outcome, log_at, carries_on}
use Rattle.manual.specs.Tallies.{takes_counts, counting}
use Rattle.manual.proofs.WordsLaws.{clash}

-- the same outcome, with other counts beside
abbrev pub recounted : List ℕ → Outcome → Outcome
recounted k o = record {
  answer = o.answer;
  verdict = o.verdict;
  value = o.value;
  part = o.part;
  beside = with_counts k o.beside;
  state = o.state;
}

judged_recounted : (k : List ℕ) (rules : List Rule) (b : Beside) (s : State) (o : Outcome)
    → judged rules (with_counts k b) s (recounted k o) ≡ recounted k (judged rules b s o)
unfolding judged
judged_recounted k rules b s o = go (eqb (first_that_applies rules) 0)
  where
    go : (t : Bool)
        → cond t (recounted k o) (refused (first_that_applies rules) (with_counts k b) s)
        ≡ recounted k (cond t o (refused (first_that_applies rules) b s))
    go true = refl
    go false = refl

module _ (cfg : Configuration) where
  query_recounted : (q : Query) (k : List ℕ) (b : Beside) (s : State)
      → answer_to cfg q (with_counts k b) s ≡ recounted k (answer_to cfg q b s)
  unfolding read_status read_frame read_counter read_missing read_table read_paint list_grey list_grey_rules save save_rules
  query_recounted (ReadStatus e) k b s = judged_recounted k _ b s _
  query_recounted (ReadFrame e which) k b s = judged_recounted k _ b s _
  query_recounted (ReadCounter e) k b s = judged_recounted k _ b s _
  query_recounted (ReadMissing e present) k b s = judged_recounted k _ b s _
  query_recounted ReadTable k b s = judged_recounted k _ b s _
  query_recounted (ReadPaint e) k b s = judged_recounted k _ b s _
  query_recounted ListGrey k b s = judged_recounted k _ b s _
  query_recounted Save k b s = judged_recounted k _ b s _

  pub counts_not_looked_at : (c : Call) → takes_counts c ≡ false → (k : List ℕ) (b : Beside) (s : State)
      → outcome cfg c (with_counts k b) s ≡ recounted k (outcome cfg c b s)
  unfolding start_cycle
  counts_not_looked_at Fresh t k b s = clash true refl t
  counts_not_looked_at (Report e code frame present) t k b s = clash true refl t
  counts_not_looked_at (Tick ms frame present) t k b s = clash true refl t
  counts_not_looked_at (Start c) t k b s = judged_recounted k _ b s _
  counts_not_looked_at (Stop c) t k b s = clash true refl t
  counts_not_looked_at (Clear code) t k b s = clash true refl t
  counts_not_looked_at (Read q) t k b s = query_recounted q k b s
  counts_not_looked_at (Restore image) t k b s = clash true refl t
  counts_not_looked_at (Request bytes) t k b s = clash true refl t

  pub counts_as_found : (c : Call) → takes_counts c ≡ false → (b : Beside) (s : State)
      → (outcome cfg c b s).beside.counts ≡ b.counts
  counts_as_found c t b s = ap (λ (o : Outcome). o.beside.counts) (counts_not_looked_at c t b.counts b s)

  -- ---- such a call, and a refused one, goes on and adds nothing to the log

  either_way : (t : Bool) → cond {A = List Happening} t [] [] ≡ []
  either_way true = refl
  either_way false = refl

  refused_on : (anew t : Bool) → t ≡ false → not (anew && t) ≡ true
  refused_on true t f = rw f
  refused_on false t f = refl

  pub not_counting_goes_on : (c : Call) (b : Beside) (s : State) → counting cfg c b s ≡ false → carries_on cfg c b s ≡ true
  not_counting_goes_on Fresh b s f = refused_on true _ f
  not_counting_goes_on (Report e code frame present) b s f = refl
  not_counting_goes_on (Tick ms frame present) b s f = refl
  not_counting_goes_on (Start c) b s f = refl
  not_counting_goes_on (Stop c) b s f = refl
  not_counting_goes_on (Clear code) b s f = refl
  not_counting_goes_on (Read q) b s f = refl
  not_counting_goes_on (Restore image) b s f = refused_on true _ f
  not_counting_goes_on (Request bytes) b s f = refl

  pub not_counting_adds_nothing : (c : Call) (b : Beside) (s : State) → counting cfg c b s ≡ false
      → log_at cfg c b s ≡ []
  not_counting_adds_nothing Fresh b s f = rw f
  not_counting_adds_nothing (Report e code frame present) b s f = rw f
  not_counting_adds_nothing (Tick ms frame present) b s f = rw f
  not_counting_adds_nothing (Start c) b s f = either_way (eqb (outcome cfg (Start c) b s).answer 0)
  not_counting_adds_nothing (Stop c) b s f = rw f
  not_counting_adds_nothing (Clear code) b s f = rw f
  not_counting_adds_nothing (Read q) b s f = either_way (eqb (outcome cfg (Read q) b s).answer 0)
  not_counting_adds_nothing (Restore image) b s f = rw f
  not_counting_adds_nothing (Request bytes) b s f = rw f
