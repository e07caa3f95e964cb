-- Document 01, "Status byte": an event's record, and what each thing that happens to the event does to it.
-- Assumes nothing.
use Rattle.std.specs.Prelude.{Bool, false, not, ◌&&◌, ◌||◌, cond, List, [], ◌∷◌, ℕ, suc, ◌+◌, ◌/◌, ◌%◌, min, eqb, leb}

-- "The eight bits have the names and weights of ISO 14229-1."
pub data Bit : Type 0 where
  test_failed : Bit
  test_failed_this_operation_cycle : Bit
  pending_dtc : Bit
  confirmed_dtc : Bit
  test_not_completed_since_last_clear : Bit
  test_failed_since_last_clear : Bit
  test_not_completed_this_operation_cycle : Bit
  warning_indicator_requested : Bit

abbrev pub weight : Bit → ℕ
weight test_failed = 0x01
weight test_failed_this_operation_cycle = 0x02
weight pending_dtc = 0x04
weight confirmed_dtc = 0x08
weight test_not_completed_since_last_clear = 0x10
weight test_failed_since_last_clear = 0x20
weight test_not_completed_this_operation_cycle = 0x40
weight warning_indicator_requested = 0x80

-- A status says of each bit whether it is set; its byte is the sum of the weights of those that are.
abbrev pub Status : Type 0
Status = Bit → Bool

abbrev pub weighed : Status → Bit → ℕ
weighed s b = cond (s b) (weight b) 0

abbrev pub byte_of : Status → ℕ
byte_of s =
    weighed s test_failed
    + weighed s test_failed_this_operation_cycle
    + weighed s pending_dtc
    + weighed s confirmed_dtc
    + weighed s test_not_completed_since_last_clear
    + weighed s test_failed_since_last_clear
    + weighed s test_not_completed_this_operation_cycle
    + weighed s warning_indicator_requested

-- the status that a byte stands for
abbrev pub status_of : ℕ → Status
status_of byte b = eqb (byte / weight b % 2) 1

-- "Records: … per event status, K (failed cycles), h (healing count), g (ageing count)."
pub record EventRecord : Type 0 where
  pub status : Status
  pub K : ℕ
  pub h : ℕ
  pub g : ℕ

-- "C confirm, H heal, A age" and "indicator" of the event's row of the configuration
pub record Limits : Type 0 where
  pub C : ℕ
  pub H : ℕ
  pub A : ℕ
  pub indicator : Bool

-- ---- setting and clearing bits, and doing so where a test holds

abbrev pub among : List Bit → Bit → Bool
among [] b = false
among (a ∷ rest) b = eqb (weight a) (weight b) || among rest b

abbrev pub set_bits : List Bit → Status → Status
set_bits bits s b = among bits b || s b

abbrev pub clear_bits : List Bit → Status → Status
clear_bits bits s b = not (among bits b) && s b

abbrev pub set_bits_if : Bool → List Bit → Status → Status
set_bits_if test bits s b = (among bits b && test) || s b

abbrev pub clear_bits_if : Bool → List Bit → Status → Status
clear_bits_if test bits s b = cond (among bits b && test) false (s b)

-- ---- what happens to an event

-- "Fresh: status 50h, K = h = g = 0"
abbrev pub fresh_record : EventRecord
fresh_record = record { status = status_of 0x50; K = 0; h = 0; g = 0 }

-- "Passed: clears 0, 4, 6."
abbrev pub on_passed : EventRecord → EventRecord
on_passed r = record {
  status =
      clear_bits (test_failed ∷ test_not_completed_since_last_clear ∷ test_not_completed_this_operation_cycle ∷ []) r.status;
  K = r.K;
  h = r.h;
  g = r.g;
}

-- "Failed: if bit 1 was clear, K rises by one, at most 255."
abbrev pub risen_k : EventRecord → ℕ
risen_k r = cond (r.status test_failed_this_operation_cycle) r.K (min 255 (suc r.K))

-- what confirms: "If K ≥ C"
abbrev pub confirms : Limits → EventRecord → Bool
confirms n r = leb n.C (risen_k r)

-- "Sets 0, 1, 2, 5; clears 4, 6; h = g = 0. If K ≥ C, sets 3 and, with indicator 1, 7."
abbrev pub on_failed : Limits → EventRecord → EventRecord
on_failed n r = record {
  status =
      set_bits_if (confirms n r) (confirmed_dtc ∷ [])
      (set_bits_if (n.indicator && confirms n r) (warning_indicator_requested ∷ [])
      (clear_bits (test_not_completed_since_last_clear ∷ test_not_completed_this_operation_cycle ∷ [])
      (set_bits (test_failed ∷ test_failed_this_operation_cycle ∷ pending_dtc ∷ test_failed_since_last_clear ∷ []) r.status)));
  K = risen_k r;
  h = 0;
  g = 0;
}

-- "If bit 0 was clear before, it is a fresh failure and memory is told, last."
abbrev pub fresh_failure : EventRecord → Bool
fresh_failure r = not (r.status test_failed)

-- "Start of a stopped cycle: for its events clears 1, sets 6."
abbrev pub on_start : EventRecord → EventRecord
on_start r = record {
  status =
      set_bits (test_not_completed_this_operation_cycle ∷ []) (clear_bits (test_failed_this_operation_cycle ∷ []) r.status);
  K = r.K;
  h = r.h;
  g = r.g;
}

-- Stop, "(a) if 1 and 6 are clear": the cycle was tested and did not fail.
abbrev pub clean_cycle : Status → Bool
clean_cycle s = not (s test_failed_this_operation_cycle) && not (s test_not_completed_this_operation_cycle)

-- what counts for healing: such a cycle
abbrev pub counts_for_healing : Status → Bool
counts_for_healing s = clean_cycle s

-- "and if bit 7 is set h rises by one; at H, bit 7 clear and h = 0"
abbrev pub heals : Limits → EventRecord → Bool
heals n r = counts_for_healing r.status && r.status warning_indicator_requested && eqb (suc r.h) n.H

-- "(a) if 1 and 6 are clear: bit 2 clear, K = 0, and if bit 7 is set h rises by one; at H, bit 7 clear and h = 0."
abbrev pub stop_a : Limits → EventRecord → EventRecord
stop_a n r = record {
  status =
      clear_bits_if (heals n r) (warning_indicator_requested ∷ [])
      (clear_bits_if (clean_cycle r.status) (pending_dtc ∷ []) r.status);
  K = cond (clean_cycle r.status) 0 r.K;
  h =
      cond (heals n r) 0
      (cond (counts_for_healing r.status && r.status warning_indicator_requested) (suc r.h) r.h);
  g = r.g;
}

-- what counts for ageing. Document 02, W2: "Ageing must count only a cycle with bits 1 and 6 both clear at its stop."
abbrev pub counts_for_ageing : Status → Bool
counts_for_ageing s = clean_cycle s

-- "and 3 is set: g rises by one; at A the event ages"
abbrev pub ages : Limits → EventRecord → Bool
ages n r = counts_for_ageing r.status && r.status confirmed_dtc && eqb (suc r.g) n.A

-- "(b) then, if 1 is clear", and by W2 6 too, "and 3 is set: g rises by one; at A the event ages: 3 and 7 clear,
-- h = g = 0, its entry leaves memory."
abbrev pub stop_b : Limits → EventRecord → EventRecord
stop_b n r = record {
  status = clear_bits_if (ages n r) (confirmed_dtc ∷ warning_indicator_requested ∷ []) r.status;
  K = r.K;
  h = cond (ages n r) 0 r.h;
  g = cond (ages n r) 0 (cond (counts_for_ageing r.status && r.status confirmed_dtc) (suc r.g) r.g);
}

abbrev pub on_stop : Limits → EventRecord → EventRecord
on_stop n r = stop_b n (stop_a n r)

-- whether the event ages at this stop, so that its entry leaves
abbrev pub ages_at_stop : Limits → EventRecord → Bool
ages_at_stop n r = ages n (stop_a n r)

-- "Clear …: each covered event gets status 50h, K = h = g = D = 0"
abbrev pub on_clear : EventRecord → EventRecord
on_clear r = record { status = status_of 0x50; K = 0; h = 0; g = 0 }
