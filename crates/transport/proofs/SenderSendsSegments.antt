-- A sender sends exactly the segments of its message: whatever its driver does, what it hands over is a beginning of
-- them; and it is all of them once the sender is idle, if nothing aborted it. Assumes nothing.
use mathlib.Core.Path.{◌≡◌, refl, sym, ap, subst, ◌∙◌}
use mathlib.Core.Bool.{Bool, true, false, ◌&&◌, ◌||◌, cond}
use mathlib.Core.List.{List, [], ◌∷◌, ◌++◌, append-nil}
use Prim.Native.Nat.{ℕ, zero, suc, ◌+◌, ◌-◌, ◌≤◌}
use native.Mathlib.Omega.{arith}
use lib.ListN.{length}
use lib.Dec.{eqb, leb}
use Rattle.std.specs.Prelude.{Some, Ok, option_to_list}
use borrow.Author.Tests.{le-leb, eqb-true, eqb-false, leb-false}
use Rattle.transport.specs.declared.CanFrame.{CanFrame}
use Rattle.transport.specs.declared.Sender.{Sender}
use Rattle.transport.specs.declared.Sender.TheVariants.{Idle, Waiting, Running}
use Rattle.transport.specs.declared.FlowAnswer.TheVariants.{Go, Wait, Aborted}
use Rattle.transport.specs.Frames.{byte, first, consecutive, last_number, longest, has}
use Rattle.transport.specs.Sending.{start, Flowed, flowed, controlled, waiting, carries_on, sent, Next, offers, running}
use Rattle.transport.specs.Segments.{consecutives, segments, Step, controls, asks, after, handed, calm, is_idle}
use Rattle.transport.specs.Segments.{sender_after, sends}
use Rattle.transport.proofs.FramesLaws.{has_so}

-- these frames are a beginning of those, and all of them where this is so
abbrev Begins : Bool → List CanFrame → List CanFrame → Type 0
Begins whole xs all = (rest : List CanFrame) × (xs ++ rest ≡ all) × (whole ≡ true → rest ≡ [])

one_more : (whole : Bool) (f : CanFrame) (xs all : List CanFrame) → Begins whole xs all
    → Begins whole (f ∷ xs) (f ∷ all)
one_more whole f xs all h = (h.0, ap (λ l. f ∷ l) h.1, h.2)

flow_due : (f : CanFrame) (k : ℕ) → has longest k ≡ true → waiting k f ≡ controlled k f
unfolding waiting
flow_due f k h = rw h

next_due : (m : List ℕ) (k left : ℕ) → has (length m) k ≡ true
    → running k left m ≡ offers (Some (consecutive m k)) (sent (length m) k left)
unfolding running
next_due m k left h = rw h

module _ (m : List ℕ) where
  -- an idle sender hands over nothing
  idle_stays : (l : List Step) → handed m l Idle ≡ []
  unfolding handed
  idle_stays [] = refl
  idle_stays (controls f ∷ l) = idle_stays l
  idle_stays (asks ∷ l) = idle_stays l

  -- the sender hands over a beginning of the n frames from number k on
  abbrev Rest : List Step → Sender → ℕ → ℕ → Type 0
  Rest l s k n = Begins (calm l && is_idle (after m l s)) (handed m l s) (consecutives m k n)

  -- and so it does where it stands before frame k
  abbrev Before : List Step → ℕ → ℕ → Type 0
  Before l k n = Rest l (Waiting k) k n × ((left : ℕ) → Rest l (Running k left) k n)

  -- ---- a step

  refused_flow : (l : List Step) (s : Sender) (k n : ℕ) (a : Bool) → Rest l s k n
      → Begins ((a && calm l) && is_idle (after m l s)) (handed m l s) (consecutives m k n)
  refused_flow l s k n true h = h
  refused_flow l s k n false h = (h.0, h.1, λ e. cc)

  after_flow : (l : List Step) (f : CanFrame) (k n : ℕ) (a b : Bool) → Before l k n
      → (let waits = cond b (flowed (Ok Wait) (Waiting k)) (flowed (Ok Aborted) Idle) in
      let s = (cond a (flowed (Ok (Go (byte f 2))) (Running k (byte f 1))) waits).sender in
      Begins (((a || b) && calm l) && is_idle (after m l s)) (handed m l s) (consecutives m k n))
  after_flow l f k n true b h = h.1 (byte f 1)
  after_flow l f k n false true h = h.0
  after_flow l f k n false false h = (consecutives m k n, rw (idle_stays l), λ e. cc)

  goes_on : (l : List Step) (k left n : ℕ) → Before l k n → Rest l (carries_on k left) k n
  unfolding carries_on
  goes_on l k left n h = go (eqb left 0) (eqb left 1)
    where
      go : (a b : Bool) → Rest l (cond a (Running k 0) (cond b (Waiting k) (Running k (left - 1)))) k n
      go true b = h.1 0
      go false true = h.0
      go false false = h.1 (left - 1)

  module _ (least : 8 ≤ length m) (most : length m ≤ longest) where
    abbrev last : ℕ
    last = last_number (length m)

    -- after frame k, with n more to come
    after_frame : (l : List Step) (k left n : ℕ) → 1 ≤ k → k + n ≡ last → ((1 ≤ n) → Before l (k + 1) n)
        → Rest l (sent (length m) k left) (k + 1) n
    unfolding sent consecutives
    after_frame l k left n low sum h = go (eqb k last) refl n sum h
      where
        go : (b : Bool) → eqb k last ≡ b → (n : ℕ) → k + n ≡ last → ((1 ≤ n) → Before l (k + 1) n)
            → Rest l (cond b Idle (carries_on (k + 1) left)) (k + 1) n
        go true e zero sum h = ([], rw (idle_stays l), λ e. refl)
        go true e (suc n) sum h = let is = eqb-true k last e in let z : ⊥ = omega arith in absurd z
        go false e zero sum h = let z : ⊥ = eqb-false k last e (omega arith) in absurd z
        go false e (suc n) sum h = goes_on l (k + 1) left (suc n) (h (omega arith))

    positive : (l : List Step) (k n : ℕ) → ((n : ℕ) → k + 1 + n ≡ last → Before l (k + 1) (suc n)) → k + n ≡ last
        → 1 ≤ n → Before l (k + 1) n
    positive l k zero h sum low = let z : ⊥ = omega arith in absurd z
    positive l k (suc n) h sum low = h n (omega arith)

    -- ---- all steps

    before_frame : (l : List Step) (k n : ℕ) → 1 ≤ k → k + n ≡ last → Before l k (suc n)
    unfolding handed after calm consecutives controlled
    before_frame [] k n low sum =
        let all = consecutives m k (suc n) in ((all, refl, λ e. cc), λ left. (all, refl, λ e. cc))
    before_frame (controls f ∷ l) k n low sum =
        let before = before_frame l k n low sum in
        let go = eqb (byte f 0) 0x30 in
        let wait = eqb (byte f 0) 0x31 in
        let due = flow_due f k (has_so longest k (omega arith) (omega arith) low (omega arith)) in (
          subst
              (λ (x : Flowed). Begins ((go || wait) && calm l && is_idle (after m l x.sender))
              (handed m l x.sender) (consecutives m k (suc n)))
              (sym due) (after_flow l f k (suc n) go wait before),
          λ left. refused_flow l (Running k left) k (suc n) (go || wait) (before.1 left),
        )
    before_frame (asks ∷ l) k n low sum =
        let due = has_so (length m) k least most low (omega arith) in
        let before = before_frame l k n low sum in
        let rest = positive l k n (λ n e. before_frame l (k + 1) n (omega arith) e) sum in (
          before.0,
          λ left. subst
              (λ (x : Next). Begins (calm l && is_idle (after m l x.sender))
              (option_to_list x.frame ++ handed m l x.sender) (consecutives m k (suc n)))
              (sym (next_due m k left due))
              (one_more _ (consecutive m k) (handed m l (sent (length m) k left)) (consecutives m (k + 1) n)
              (after_frame l k left n low sum rest)),
        )

    from_one : (l : List Step) (n : ℕ) → n ≡ last → Rest l (Waiting 1) 1 n
    from_one l zero e = let z : ⊥ = omega arith in absurd z
    from_one l (suc n) e = (before_frame l 1 n (omega arith) (omega arith)).0

-- ---- from the start on

module _ (m : List ℕ) (least : 1 ≤ length m) (most : length m ≤ longest) where
  both : (l : List Step) → Begins (calm l && is_idle (sender_after m l)) (sends m l) (segments m)
  unfolding start segments
  both l = go (leb (length m) 7) refl
    where
      go : (b : Bool) → leb (length m) 7 ≡ b → Begins (calm l && is_idle (sender_after m l)) (sends m l) (segments m)
      go true e = rw (le-leb 1 (length m) least, le-leb (length m) longest most, e) ([], rw (idle_stays m l), λ e. refl)
      go false e =
          let long = leb-false (length m) 7 e in
          rw (le-leb 1 (length m) least, le-leb (length m) longest most, e)
          (one_more _ (first m) (handed m l (Waiting 1)) (consecutives m 1 (last_number (length m)))
          (from_one m long most l (last_number (length m)) refl))

-- whatever the driver does, the sender hands over a beginning of its segments
pub sends_a_beginning : (m : List ℕ) → 1 ≤ length m → length m ≤ longest → (l : List Step)
    → (rest : List CanFrame) × (sends m l ++ rest ≡ segments m)
sends_a_beginning m least most l = let b = both m least most l in (b.0, b.1)

-- once it is idle, and where every frame that it was given as flow control begins with `30` or `31`, it has handed over
-- all of them, in their order, and nothing else
pub sends_all : (m : List ℕ) → 1 ≤ length m → length m ≤ longest → (l : List Step) → calm l ≡ true
    → is_idle (sender_after m l) ≡ true → sends m l ≡ segments m
sends_all m least most l still idle =
    let b = both m least most l in
    sym (append-nil (sends m l)) ∙ ap (λ r. sends m l ++ r) (sym (b.2 (rw (still, idle)))) ∙ b.1
