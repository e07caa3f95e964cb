-- What the code judges of an image is the manual's `acceptable_in` of one edition, and `acceptable`.
use mathlib.Core.Path.{◌≡◌, refl, sym, ap, subst, ◌∙◌}
use mathlib.Core.Bool.{Bool, true, false, ◌&&◌, ◌||◌, cond}
use mathlib.Core.List.{List, [], ◌∷◌, ◌++◌, append-nil}
use Prim.Native.Nat.{ℕ, zero, suc, ◌-◌, ◌*◌, ◌≤◌, ◌<◌}
use native.Mathlib.Nat.{mul_comm, mul-sub, mul-le-mul_left}
use native.Mathlib.Omega.{arith}
use lib.Dec.{eqb, leb}
use lib.IntN.{pos}
use lib.ListN.{length, get_or, take, drop, replicate, length-append, length-replicate}
use lib.ListN.{length-drop, get_or-replicate, get_or-eq_default}
use lib.Seq.{take_at, drop_at, length-take-le, get_or-take}
use borrow.Author.Tests.{eqb-true, eq-eqb, ne_eqb, lt-leb}
use Rattle.std.specs.Prelude.{bytes_eq, Result, Ok, Err}
use Rattle.manual.specs.declared.Refusal.{Refusal}
use Rattle.manual.specs.declared.Refusal.TheVariants.{BadArgument, BadImage}
use Rattle.manual.proofs.ConfigurationLaws.{config_tells}
use Rattle.image.specs.declared.Edition.{Edition}
use Rattle.image.specs.declared.Edition.TheVariants.{One, Two}
use Rattle.image.specs.Editions.{edition_number, edition_of, edition_told}
use Rattle.history.proofs.WordsLaws.{and_true, and_assoc}
use Rattle.manual.specs.Words.{equal}
use Rattle.manual.specs.Configuration.{Configuration, most_payload, events, places, cycle_of, config_ok}
use Rattle.manual.specs.State.{State, lent, all_stopped, record_width}
use Rattle.manual.specs.WellFormed.{d_fits, d_ok, lengths_fit_with}
use Rattle.manual.specs.WellFormed.{well_formed_with}
use Rattle.manual.specs.Memory.{entry_width, entry_count, bytes_in_use, memory_length}
use Rattle.manual.specs.Image.{header_length, header, image_from, edition, edition1, edition2, memory_body}
use Rattle.manual.specs.Image as manual
use Rattle.manual.specs.Image.{image_in, records_of, state_in, acceptable_in, acceptable, used_in, after_records}
use Rattle.manual.proofs.WordsLaws.{clash, all_below_lem, zeros_pass, equal_refl}
use Rattle.manual.proofs.ImageLaws.{none_runs, accepted_image, accepted_state, accepted_byte_1}
use Rattle.manual.proofs.WellFormedLaws.{lengths_told, state_tells, used_length}
use Rattle.memory.specs.Judgement.{used_ok, block_ok}
use Rattle.memory.proofs.JudgementLaws.{block_rest, count_in_front}
use Rattle.judgement.proofs.WellFormedLaws.{records_are, numbers_are, judged_in_passes}
use Rattle.image.specs.Layout.{memory_at, length_ok, bodies_ok}
use Rattle.image.proofs.LayoutLaws.{used_with, joined, Fitting, records_in, rest_in, count_in_lem, used_in_lem}
use Rattle.image.proofs.LayoutLaws.{length_right, length_is, header_part, used_part, flag_byte, parts_fit}
use Rattle.image.proofs.LayoutLaws.{parts_joined}

-- ---- lists of bytes

equal_append : (a b c d : List ℕ) → length a ≡ length c → equal (a ++ b) (c ++ d) ≡ equal a c && equal b d
unfolding equal
equal_append [] b [] d e = refl
equal_append [] b (y ∷ c) d e = absurd (omega arith)
equal_append (x ∷ a) b [] d e = absurd (omega arith)
equal_append (x ∷ a) b (y ∷ c) d e =
    ap (λ (t : Bool). eqb x y && t) (equal_append a b c d (omega arith)) ∙ and_assoc (eqb x y) (equal a c) (equal b d)

-- `==` of two slices
pub slices_equal : (a b : List ℕ) → bytes_eq a b ≡ equal a b
unfolding equal
slices_equal [] [] = refl
slices_equal [] (y ∷ b) = refl
slices_equal (x ∷ a) [] = refl
slices_equal (x ∷ a) (y ∷ b) = ap (λ (t : Bool). eqb x y && t) (slices_equal a b)

-- "the overflow flag (0 or 1)"
flag_right : (flag : ℕ) → equal (cond (eqb flag 1) 1 0 ∷ []) (flag ∷ []) ≡ leb flag 1
unfolding equal
flag_right zero = refl
flag_right (suc zero) = refl
flag_right (suc (suc flag)) =
    let a : eqb (suc (suc flag)) 1 ≡ false = ne_eqb (suc (suc flag)) 1 (λ e. omega arith) in
    let b : eqb 0 (suc (suc flag)) ≡ false = ne_eqb 0 (suc (suc flag)) (λ e. omega arith) in
    rw (a, b, lt-leb (suc (suc flag)) 1 (omega arith))

-- ---- an image of the right length

module _ (cfg : Configuration) (ed : manual.Edition) (head records used : List ℕ) (flag : ℕ)
    (fits : Fitting cfg ed.payload head records used) where
  abbrev n : ℕ
  n = events cfg

  abbrev M : ℕ
  M = places cfg

  abbrev F : ℕ
  F = ed.payload

  abbrev behind : List ℕ
  behind = replicate (entry_width F * (M - entry_count used)) 0

  abbrev image : List ℕ
  image = joined head records used flag

  -- the state that it tells
  abbrev pub told : State
  told = lent records (replicate n (pos 0)) (used ++ behind) (record { running = all_stopped; overflow = eqb flag 1 })

  pub state_in_lem : state_in cfg ed image ≡ told
  unfolding state_in
  state_in_lem =
      let rest = rest_in cfg F head records used flag fits in
      let long = used_in_lem cfg F head records used flag fits in
      let count = count_in_lem cfg F head records used flag fits in
      let front : take (used_in cfg ed image) (after_records cfg image) ≡ used =
      (λ i. take (long i) (rest i)) ∙ take_at used (flag ∷ []) (length used) refl in
      let last : drop (used_in cfg ed image) (after_records cfg image) ≡ flag ∷ [] =
      (λ i. drop (long i) (rest i)) ∙ drop_at used (flag ∷ []) (length used) refl in
      λ i. record {
        records = records_in cfg F head records used flag fits i;
        debounce = replicate n (pos 0);
        memory = front i ++ replicate (entry_width F * (M - count i)) 0;
        board = record { running = all_stopped; overflow = eqb (get_or (last i) 0 0) 1 };
      }

  memory_long : length (used ++ behind) ≡ memory_length M F
  memory_long =
      let a = length-append used behind in
      let b : length behind ≡ entry_width F * (M - entry_count used) =
      length-replicate (entry_width F * (M - entry_count used)) 0 in
      let c = mul-sub (entry_width F) M (entry_count used) in
      let d = mul_comm M (entry_width F) in
      let e = mul-le-mul_left (entry_width F) fits.few in
      let l = fits.used_long in
      omega arith

  lengths_fit_lem : lengths_fit_with cfg F told ≡ true
  lengths_fit_lem =
      lengths_told cfg told
      (record { records = fits.records_long; debounce = length-replicate n (pos 0); memory = memory_long })

  -- every cycle is stopped, and every D is 0
  number_fits : (e : ℕ) → e < n → d_ok cfg told.board e (get_or told.debounce e (pos 0)) ≡ true
  unfolding d_fits
  number_fits e h = rw (get_or-replicate n e (pos 0) (pos 0) h, none_runs all_stopped refl (cycle_of cfg e))

  numbers_fit : numbers_are cfg told.board told.debounce ≡ true
  numbers_fit = all_below_lem n (λ e. d_ok cfg told.board e (get_or told.debounce e (pos 0))) number_fits

  memory_as_long : block_ok n M F records (used ++ behind) ≡ used_ok n M F records used
  memory_as_long =
      block_rest n M F records used behind fits.used_long memory_long fits.few
      ∙ ap (λ (b : Bool). used_ok n M F records used && b) (zeros_pass (entry_width F * (M - entry_count used)))
      ∙ and_true (used_ok n M F records used)

  formed_is : well_formed_with cfg F told ≡ bodies_ok cfg F records used
  unfolding bodies_ok
  formed_is =
      sym (judged_in_passes cfg F records told.debounce (used ++ behind) told.board lengths_fit_lem)
      ∙ (λ i. records_are cfg records && numbers_fit i && memory_as_long i)
      ∙ ap (λ (b : Bool). b && used_ok n M F records used) (and_true (records_are cfg records))

  body_is : memory_body cfg ed told ≡ used
  body_is =
      ap (λ (k : ℕ). take (bytes_in_use F k) (used ++ behind)) (count_in_front F used behind fits.used_long)
      ∙ take_at used behind (bytes_in_use F (entry_count used)) fits.used_long

  -- the header that it should have
  abbrev own : List ℕ
  own = header ed.number (length records) (length used) 1

  image_is : image_in cfg ed told ≡ joined own records used (cond (eqb flag 1) 1 0)
  unfolding image_in image_from
  image_is =
      ap
      (λ (l : List ℕ). header ed.number (length records) (length l) 1
      ++ (records ++ (l ++ (cond (eqb flag 1) 1 0 ∷ []))))
      body_is

  same_is : equal (image_in cfg ed told) image ≡ equal own head && leb flag 1
  same_is =
      ap (λ (l : List ℕ). equal l image) image_is
      ∙ equal_append own _ head _ (sym fits.header_long)
      ∙ ap (λ (b : Bool). equal own head && b)
      (equal_append records _ records _ refl
      ∙ (λ i. equal_refl records i
      && (equal_append used _ used _ refl ∙ (λ j. equal_refl used j && flag_right flag j)) i))

  judged_is : equal own head && bodies_ok cfg F records used && leb flag 1 ≡ acceptable_in cfg ed image
  unfolding acceptable_in
  judged_is =
      turned (equal own head) (bodies_ok cfg F records used) (leb flag 1)
      ∙ sym (λ i. formed_is i && same_is i)
      ∙ ap (λ (s : State). well_formed_with cfg F s && equal (image_in cfg ed s) image) (sym state_in_lem)
    where
      turned : (a b c : Bool) → a && b && c ≡ b && (a && c)
      turned true true c = refl
      turned true false c = refl
      turned false true c = refl
      turned false false c = refl

-- ---- the code's tests, in its order

module _ (cfg : Configuration) (ed : manual.Edition) where
  -- the image of a well-formed state has the right length
  own_length : (s : State) → well_formed_with cfg ed.payload s ≡ true
      → length_ok cfg ed.payload (image_in cfg ed s) ≡ true
  unfolding image_in image_from
  own_length s formed =
      let t = state_tells cfg s formed in
      let used = memory_body cfg ed s in
      let count : entry_count used ≡ entry_count s.memory =
      get_or-take (bytes_in_use ed.payload (entry_count s.memory)) s.memory 0 0 (omega arith) in
      length_right cfg ed.payload (header ed.number (length s.records) (length used) 1) s.records used
      (cond s.board.overflow 1 0)
      (record {
        header_long = refl;
        records_long = t.lengths.records;
        used_long = used_length cfg s t ∙ ap (bytes_in_use ed.payload) (sym count);
        few = omega (arith, count, t.few);
      })

  -- so an accepted image has it
  pub accepted_length : (image : List ℕ) → acceptable_in cfg ed image ≡ true → length_ok cfg ed.payload image ≡ true
  accepted_length image a =
      subst (λ (l : List ℕ). length_ok cfg ed.payload l ≡ true) (accepted_image cfg ed image a)
      (own_length (state_in cfg ed image) (accepted_state cfg ed image a).formed)

  pub refused_by_length : (image : List ℕ) → length_ok cfg ed.payload image ≡ false
      → acceptable_in cfg ed image ≡ false
  refused_by_length image n = go (acceptable_in cfg ed image) refl
    where
      go : (b : Bool) → acceptable_in cfg ed image ≡ b → b ≡ false
      go true e = clash (length_ok cfg ed.payload image) (accepted_length image e) n
      go false e = refl

  -- byte 1 of an accepted image is the edition's number
  pub byte_1_is : (image : List ℕ) → acceptable_in cfg ed image ≡ true → get_or image 1 0 ≡ ed.number
  byte_1_is image a =
      ap (λ (l : List ℕ). get_or l 1 0) (sym (append-nil image)) ∙ accepted_byte_1 cfg ed image [] a

  refused_by_byte_1 : (image : List ℕ) → (get_or image 1 0 ≡ ed.number → ⊥) → acceptable_in cfg ed image ≡ false
  refused_by_byte_1 image n = go (acceptable_in cfg ed image) refl
    where
      go : (b : Bool) → acceptable_in cfg ed image ≡ b → b ≡ false
      go true e = absurd (n (byte_1_is image e))
      go false e = refl

-- the cuts that the code makes of an image of the right length
module _ (cfg : Configuration) (W : ℕ) (image : List ℕ) (ok : length_ok cfg W image ≡ true) {start : ℕ}
    (at : start ≡ memory_at cfg) where
  pub records_cut : take (start - header_length) (drop header_length image) ≡ records_of cfg image
  records_cut =
      let e : start - header_length
      ≡ record_width * events cfg = omega (arith, at) in ap (λ (k : ℕ). take k (drop header_length image)) e

  pub records_cut_long : length (take (start - header_length) (drop header_length image)) ≡ record_width * events cfg
  records_cut_long = ap length records_cut ∙ (parts_fit cfg W image ok).records_long

  pub used_cut : take (length image - 1 - start) (drop start image) ≡ used_part cfg W image ok
  used_cut =
      let e : length image - 1 - start
      ≡ used_with cfg W image = omega (arith, at, length_is cfg W image ok) in λ i. take (e i) (drop (at i) image)

module _ (cfg : Configuration) (number W : ℕ) (image : List ℕ) (ok : length_ok cfg W image ≡ true) {start : ℕ}
    (at : start ≡ memory_at cfg) where
  pub judged_right : {expected : List ℕ} {same bodies : Bool}
      → expected ≡ header number (start - header_length) (length image - 1 - start) 1
      → same ≡ equal expected (take header_length image)
      → bodies
      ≡ bodies_ok cfg W (take (start - header_length) (drop header_length image))
      (take (length image - 1 - start) (drop start image))
      → same && bodies && leb (get_or image (length image - 1) 0) 1 ≡ acceptable_in cfg (edition number W) image
  judged_right h s b =
      let fits = parts_fit cfg W image ok in
      let records = records_of cfg image in
      let used = used_part cfg W image ok in
      let r : start - header_length ≡ length records = omega (arith, at, fits.records_long) in
      let all = length-take-le (length image - 1 - start) (drop start image) (omega (arith, length-drop start image)) in
      let u : length image - 1 - start ≡ length used =
      omega (arith, at, length_is cfg W image ok, ap length (used_cut cfg W image ok at), all) in
      let x = s ∙ (λ i. equal ((h ∙ (λ j. header number (r j) (u j) 1)) i) (take header_length image)) in
      let y = b ∙ (λ i. bodies_ok cfg W (records_cut cfg W image ok at i) (used_cut cfg W image ok at i)) in
      (λ i. x i && y i && leb (flag_byte cfg W image ok) 1)
      ∙ judged_is cfg (edition number W) (header_part cfg W image ok) records used (flag_byte cfg W image ok) fits
      ∙ ap (acceptable_in cfg (edition number W)) (parts_joined cfg W image ok)

-- ---- byte 1 tells the edition

module _ (number : ℕ) where
  abbrev told_as : Result Edition Refusal → ℕ
  told_as (Ok e) = edition_number e
  told_as (Err r) = 0

  abbrev refusal_in : Result Edition Refusal → Refusal
  refusal_in (Ok e) = BadArgument
  refusal_in (Err r) = r

  some_number : (e : Edition) → edition_number e ≡ 0 → ⊥
  some_number One h = absurd (omega arith)
  some_number Two h = absurd (omega arith)

  pub told_number : (e : Edition) → Ok e ≡ edition_told number → number ≡ edition_number e
  told_number e q = go (eqb number 1) (eqb number 2) refl refl q
    where
      go : (a b : Bool) → eqb number 1 ≡ a → eqb number 2 ≡ b
          → Ok e ≡ cond a (Ok One) (cond b (Ok Two) (Err BadImage))
          → number ≡ edition_number e
      go true b x y q = eqb-true number 1 x ∙ sym (ap told_as q)
      go false true x y q = eqb-true number 2 y ∙ sym (ap told_as q)
      go false false x y q = absurd (some_number e (ap told_as q))

  pub told_none : (r : Refusal) → Err r ≡ edition_told number
      → ((number ≡ 1 → ⊥) × (number ≡ 2 → ⊥)) × (r ≡ BadImage)
  told_none r q = go (eqb number 1) (eqb number 2) refl refl q
    where
      go : (a b : Bool) → eqb number 1 ≡ a → eqb number 2 ≡ b
          → Err r ≡ cond a (Ok One) (cond b (Ok Two) (Err BadImage))
          → ((number ≡ 1 → ⊥) × (number ≡ 2 → ⊥)) × (r ≡ BadImage)
      go true b x y q = absurd (some_number One (sym (ap told_as q)))
      go false true x y q = absurd (some_number Two (sym (ap told_as q)))
      go false false x y q = (
        (
          λ e. clash (eqb number 1) (eq-eqb number 1 e) x,
          λ e. clash (eqb number 2) (eq-eqb number 2 e) y,
        ),
        ap refusal_in q,
      )

pub payload_fits : (cfg : Configuration) → config_ok cfg ≡ true → (e : Edition) → (edition_of cfg e).payload ≤ most_payload
payload_fits cfg ok One = omega (arith, (config_tells cfg ok).F_most)
payload_fits cfg ok Two = omega (arith, (config_tells cfg ok).payload_most)

module _ (cfg : Configuration) (image : List ℕ) where
  pub judged_with : (e : Edition) → get_or image 1 0 ≡ edition_number e → {ok : Bool}
      → ok ≡ acceptable_in cfg (edition_of cfg e) image → ok ≡ acceptable cfg image
  unfolding acceptable
  judged_with One one q =
      q
      ∙ sym
      (ap (λ (b : Bool). b || acceptable_in cfg (edition1 cfg) image)
      (refused_by_byte_1 cfg (edition2 cfg) image (λ two. omega (arith, one, two))))
  judged_with Two two q =
      q
      ∙ sym
      (ap (λ (b : Bool). acceptable_in cfg (edition2 cfg) image || b)
      (refused_by_byte_1 cfg (edition1 cfg) image (λ one. omega (arith, one, two)))
      ∙ or_false (acceptable_in cfg (edition2 cfg) image))
    where
      or_false : (b : Bool) → b || false ≡ b
      or_false true = refl
      or_false false = refl

  -- of neither edition
  pub refused_other : (get_or image 1 0 ≡ 1 → ⊥) → (get_or image 1 0 ≡ 2 → ⊥) → acceptable cfg image ≡ false
  unfolding acceptable
  refused_other one two =
      λ i. refused_by_byte_1 cfg (edition2 cfg) image two i || refused_by_byte_1 cfg (edition1 cfg) image one i

  -- no byte 1
  pub refused_short : length image ≤ 1 → acceptable cfg image ≡ false
  unfolding acceptable
  refused_short h =
      let none : get_or image 1 0 ≡ 0 = get_or-eq_default image 0 {n = 1} h in
      (λ i. refused_by_byte_1 cfg (edition2 cfg) image (λ e. omega (arith, none, e)) i
      || refused_by_byte_1 cfg (edition1 cfg) image (λ e. omega (arith, none, e)) i)
