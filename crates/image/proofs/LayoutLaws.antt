-- Laws of specs/Layout.antt: an image of the right length, cut into its header and its bodies.
use mathlib.Core.Path.{◌≡◌, sym, ap, ◌∙◌}
use mathlib.Core.Bool.{Bool, true, false, ◌&&◌}
use mathlib.Core.List.{List, [], ◌∷◌, ◌++◌}
use Prim.Native.Nat.{ℕ, suc, ◌+◌, ◌-◌, ◌*◌, ◌≤◌, ◌<◌}
use native.Mathlib.Omega.{arith}
use lib.Dec.{eqb, leb}
use lib.ListN.{length, get_or, take, drop, length-append, length-drop, take-append-drop, get_or-append}
use lib.Seq.{take_all, take_at, drop_at, drop-drop, drop-cons, drop-length, length-take-le, get_or-take}
use borrow.Author.Tests.{eqb-true, eq-eqb, ne_eqb, leb-true, le-leb, lt-leb}
use Rattle.history.proofs.WordsLaws.{and_left, and_right, both, and_false}
use Rattle.manual.specs.Configuration.{Configuration, most_places, most_payload, events, places, config_ok}
use Rattle.manual.specs.State.{record_width}
use Rattle.manual.specs.Memory.{entry_count, bytes_in_use}
use Rattle.manual.specs.Image.{header_length, records_of, after_records}
use Rattle.manual.proofs.ConfigurationLaws.{config_tells}
use Rattle.manual.proofs.MemoryLaws.{used_most}
use Rattle.image.specs.Layout.{memory_at, length_ok}

-- the bytes of the entry count in an image and of that many entries with payloads of W bytes
abbrev pub used_with : Configuration → ℕ → List ℕ → ℕ
used_with cfg W image = bytes_in_use W (entry_count (after_records cfg image))

-- ---- the tests of an image's length, in the code's order

module _ (cfg : Configuration) (W : ℕ) (image : List ℕ) where
  rest_is : {start : ℕ} → start ≡ memory_at cfg → take (length image - start) (drop start image) ≡ after_records cfg image
  rest_is {start} e =
      take_all (length image - start) (drop start image) (omega (arith, length-drop start image))
      ∙ ap (λ (k : ℕ). drop k image) e

  pub too_short : {start : ℕ} → start ≡ memory_at cfg → length image ≤ start → length_ok cfg W image ≡ false
  unfolding length_ok
  too_short e h =
      ap (λ (b : Bool). leb (entry_count (after_records cfg image)) (places cfg) && b)
      (ne_eqb (length image) (memory_at cfg + used_with cfg W image + 1) (λ q. omega arith))
      ∙ and_false (leb (entry_count (after_records cfg image)) (places cfg))

  module _ {start count : ℕ} (e : start ≡ memory_at cfg)
      (q : count ≡ entry_count (take (length image - start) (drop start image))) where
    count_is : count ≡ entry_count (after_records cfg image)
    count_is = q ∙ ap entry_count (rest_is e)

    pub too_many : places cfg < count → length_ok cfg W image ≡ false
    unfolding length_ok
    too_many h = rw (lt-leb (entry_count (after_records cfg image)) (places cfg) (omega (arith, count_is)))

    module _ (h : count ≤ places cfg) where
      count_most : config_ok cfg ≡ true → entry_count (take (length image - start) (drop start image)) ≤ most_places
      count_most ok = omega (arith, q, (config_tells cfg ok).M_most)

      pub counted : config_ok cfg ≡ true → W ≤ most_payload → start < length image
          → (0 < length (take (length image - start) (drop start image)))
          × ((entry_count (take (length image - start) (drop start image)) ≤ most_places) × (W ≤ most_payload))
      counted ok w k = (
        let l = length-take-le (length image - start) (drop start image) (omega (arith, length-drop start image)) in
            omega arith,
        (count_most ok, w),
      )

      module _ {used : ℕ}
          (u : used ≡ bytes_in_use W (entry_count (take (length image - start) (drop start image)))) where
        pub few_enough : eqb (length image) (start + used + 1) ≡ length_ok cfg W image
        unfolding length_ok
        few_enough =
            let is = u ∙ ap (λ (l : List ℕ). bytes_in_use W (entry_count l)) (rest_is e) in
            (λ i. eqb (length image) (e i + is i + 1))
            ∙ sym (rw (le-leb (entry_count (after_records cfg image)) (places cfg) (omega (arith, count_is))))

-- ---- an image cut into its header and its bodies

abbrev pub joined : List ℕ → List ℕ → List ℕ → ℕ → List ℕ
joined header records used flag = header ++ (records ++ (used ++ (flag ∷ [])))

pub record Fitting (cfg : Configuration) (W : ℕ) (header records used : List ℕ) : Type 0 where
  pub header_long : length header ≡ header_length
  pub records_long : length records ≡ record_width * events cfg
  pub used_long : length used ≡ bytes_in_use W (entry_count used)
  pub few : entry_count used ≤ places cfg

-- what stands in such an image
module _ (cfg : Configuration) (W : ℕ) (header records used : List ℕ) (flag : ℕ)
    (fits : Fitting cfg W header records used) where
  abbrev image : List ℕ
  image = joined header records used flag

  after_header : drop header_length image ≡ records ++ (used ++ (flag ∷ []))
  after_header = drop_at header _ header_length fits.header_long

  pub records_in : records_of cfg image ≡ records
  records_in =
      ap (take (record_width * events cfg)) after_header
      ∙ take_at records _ (record_width * events cfg) fits.records_long

  pub rest_in : after_records cfg image ≡ used ++ (flag ∷ [])
  rest_in =
      sym (drop-drop (record_width * events cfg) header_length image)
      ∙ ap (drop (record_width * events cfg)) after_header
      ∙ drop_at records _ (record_width * events cfg) fits.records_long

  pub count_in_lem : entry_count (after_records cfg image) ≡ entry_count used
  count_in_lem = ap entry_count rest_in ∙ get_or-append used (flag ∷ []) 0 0 (omega (arith, fits.used_long))

  pub used_in_lem : used_with cfg W image ≡ length used
  used_in_lem = ap (bytes_in_use W) count_in_lem ∙ sym fits.used_long

  length_in_lem : length image ≡ memory_at cfg + used_with cfg W image + 1
  length_in_lem =
      simp length-append
      (let a = fits.header_long in let b = fits.records_long in let d = used_in_lem in omega arith)

  pub length_right : length_ok cfg W image ≡ true
  unfolding length_ok
  length_right =
      both (leb (entry_count (after_records cfg image)) (places cfg))
      (eqb (length image) (memory_at cfg + used_with cfg W image + 1))
      (le-leb (entry_count (after_records cfg image)) (places cfg) (let d = count_in_lem in let e = fits.few in omega arith))
      (eq-eqb _ _ length_in_lem)

-- every image of the right length is one
module _ (cfg : Configuration) (W : ℕ) (image : List ℕ) (ok : length_ok cfg W image ≡ true) where
  few_in : entry_count (after_records cfg image) ≤ places cfg
  unfolding length_ok
  few_in =
      leb-true _ _
      (and_left (leb (entry_count (after_records cfg image)) (places cfg))
      (eqb (length image) (memory_at cfg + used_with cfg W image + 1)) ok)

  pub length_is : length image ≡ memory_at cfg + used_with cfg W image + 1
  unfolding length_ok
  length_is =
      eqb-true _ _
      (and_right (leb (entry_count (after_records cfg image)) (places cfg))
      (eqb (length image) (memory_at cfg + used_with cfg W image + 1)) ok)

  abbrev pub header_part : List ℕ
  header_part = take header_length image

  abbrev pub used_part : List ℕ
  used_part = take (used_with cfg W image) (after_records cfg image)

  abbrev pub flag_byte : ℕ
  flag_byte = get_or image (length image - 1) 0

  used_is : length used_part ≡ used_with cfg W image
  used_is =
      length-take-le (used_with cfg W image) (after_records cfg image)
      (let l = length_is in omega (arith, length-drop (memory_at cfg) image))

  same_count : entry_count used_part ≡ entry_count (after_records cfg image)
  same_count = get_or-take (used_with cfg W image) (after_records cfg image) 0 0 (omega arith)

  pub parts_fit : Fitting cfg W header_part (records_of cfg image) used_part
  parts_fit = record {
    header_long = length-take-le header_length image (let l = length_is in omega arith);
    records_long =
        length-take-le (record_width * events cfg) (drop header_length image)
        (let l = length_is in omega (arith, length-drop header_length image));
    used_long = used_is ∙ ap (bytes_in_use W) (sym same_count);
    few = let e = same_count in let h = few_in in omega arith;
  }

  last_is : drop (used_with cfg W image) (after_records cfg image) ≡ flag_byte ∷ []
  last_is =
      let l = length_is in
      let at : length image - 1 ≡ memory_at cfg + used_with cfg W image = omega arith in
      let past : suc (memory_at cfg + used_with cfg W image) ≡ length image = omega arith in
      drop-drop (used_with cfg W image) (memory_at cfg) image
      ∙ drop-cons image (memory_at cfg + used_with cfg W image) 0 (omega arith)
      ∙ (λ i. get_or image (sym at i) 0 ∷ (ap (λ (k : ℕ). drop k image) past ∙ drop-length image) i)

  -- the numbers that the code goes by
  pub length_least : memory_at cfg + 2 ≤ length image
  length_least = let l = length_is in omega arith

  pub length_most : config_ok cfg ≡ true → W ≤ most_payload → length image ≤ 6358
  length_most accepted w =
      let t = config_tells cfg accepted in
      let l = length_is in
      let h = few_in in
      let u = used_most W (entry_count (after_records cfg image)) w (omega (arith, t.M_most)) in
      omega (arith, t.n_most)

  pub parts_joined : joined header_part (records_of cfg image) used_part flag_byte ≡ image
  parts_joined =
      let rest : used_part ++ (flag_byte ∷ []) ≡ after_records cfg image =
      ap (λ (l : List ℕ). used_part ++ l) (sym last_is)
      ∙ take-append-drop (used_with cfg W image) (after_records cfg image) in
      let bodies : records_of cfg image ++ after_records cfg image ≡ drop header_length image =
      ap (λ (l : List ℕ). records_of cfg image ++ l) (sym (drop-drop (record_width * events cfg) header_length image))
      ∙ take-append-drop (record_width * events cfg) (drop header_length image) in
      ap (λ (l : List ℕ). header_part ++ (records_of cfg image ++ l)) rest
      ∙ ap (λ (l : List ℕ). header_part ++ l) bodies
      ∙ take-append-drop header_length image
