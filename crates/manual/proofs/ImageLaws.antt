-- Laws of specs/Image.antt, of the images of one edition: the image of a well-formed state with all cycles stopped
-- tells that state, whatever follows the image.
use mathlib.Core.Path.{◌≡◌, refl, sym, ap, subst, ◌∙◌}
use mathlib.Core.Bool.{Bool, true, false, cond}
use mathlib.Core.List.{List, [], ◌∷◌, ◌++◌, append_assoc, append-nil}
use Prim.Native.Nat.{ℕ, zero, suc, ◌-◌, ◌*◌, ◌<◌}
use native.Mathlib.Omega.{arith}
use lib.Dec.{eqb}
use lib.ListN.{length, get_or, take, drop, replicate, length-append, length-replicate, get_or-replicate, get_or-append}
use lib.Seq.{take_at, drop_at, drop-drop, ext_get_or, get_or-take}
use lib.IntN.{pos}
use Rattle.history.specs.Words.{any_of}
use Rattle.manual.specs.Words.{equal}
use Rattle.manual.specs.Configuration.{Configuration, events, places, cycle_of}
use Rattle.manual.specs.State.{State, all_stopped, record_width, D}
use Rattle.manual.specs.Memory.{entry_width, entry_count, bytes_in_use}
use Rattle.manual.specs.WellFormed.{well_formed_with}
use Rattle.manual.specs.Image.{Edition, StillWith, header_length, image_from, memory_body, overflow_body}
use Rattle.manual.specs.Image.{image_in, records_of, after_records, state_in, acceptable_in}
use Rattle.history.proofs.WordsLaws.{and_left, and_right, both}
use Rattle.manual.proofs.WordsLaws.{clash, equal_refl, equal_is}
use Rattle.manual.proofs.DebouncingLaws.{stopped_zero}
use Rattle.manual.proofs.WellFormedLaws.{StateTellsWith, state_tells, used_length, memory_split}

-- no cycle runs
pub none_runs : (l : List Bool) → any_of (λ r. r) l ≡ false → (c : ℕ) → get_or l c false ≡ false
none_runs [] e c = refl
none_runs (true ∷ l) e c = clash true refl e
none_runs (false ∷ l) e zero = refl
none_runs (false ∷ l) e (suc c) = none_runs l e c

module _ (cfg : Configuration) (ed : Edition) where
  module _ (s : State) (still : StillWith cfg ed.payload s) (rest : List ℕ) where
    abbrev tells : StateTellsWith cfg ed.payload s
    tells = state_tells cfg s still.formed

    abbrev used : ℕ
    used = bytes_in_use ed.payload (entry_count s.memory)

    -- what follows the records in the image and what is behind it
    abbrev bodies : List ℕ
    bodies = memory_body cfg ed s ++ (overflow_body cfg s ++ rest)

    after_header : drop header_length (image_in cfg ed s ++ rest) ≡ s.records ++ bodies
    unfolding image_in image_from
    after_header =
        append_assoc s.records (memory_body cfg ed s ++ overflow_body cfg s) rest
        ∙ ap (λ (l : List ℕ). s.records ++ l) (append_assoc (memory_body cfg ed s) (overflow_body cfg s) rest)

    records_back : records_of cfg (image_in cfg ed s ++ rest) ≡ s.records
    records_back =
        ap (take (record_width * events cfg)) after_header
        ∙ take_at s.records bodies (record_width * events cfg) tells.lengths.records

    bodies_are : after_records cfg (image_in cfg ed s ++ rest) ≡ bodies
    bodies_are =
        sym (drop-drop (record_width * events cfg) header_length (image_in cfg ed s ++ rest))
        ∙ ap (drop (record_width * events cfg)) after_header
        ∙ drop_at s.records bodies (record_width * events cfg) tells.lengths.records

    count_back : entry_count bodies ≡ entry_count s.memory
    count_back =
        get_or-append (memory_body cfg ed s) (overflow_body cfg s ++ rest) 0 0
        (let l = used_length cfg s tells in omega arith)
        ∙ get_or-take used s.memory 0 0 (omega arith)

    -- the memory and the overflow flag that bodies tell
    abbrev memory_in : List ℕ → List ℕ
    memory_in l =
        take (bytes_in_use ed.payload (entry_count l)) l
        ++ replicate (entry_width ed.payload * (places cfg - entry_count l)) 0

    abbrev overflow_in : List ℕ → Bool
    overflow_in l = eqb (get_or (drop (bytes_in_use ed.payload (entry_count l)) l) 0 0) 1

    memory_back : memory_in bodies ≡ s.memory
    memory_back =
        ap
        (λ (j : ℕ). take (bytes_in_use ed.payload j) bodies
        ++ replicate (entry_width ed.payload * (places cfg - j)) 0)
        count_back
        ∙ ap (λ (l : List ℕ). l ++ replicate (entry_width ed.payload * (places cfg - entry_count s.memory)) 0)
        (take_at (memory_body cfg ed s) (overflow_body cfg s ++ rest) used (used_length cfg s tells))
        ∙ sym (memory_split cfg s tells)

    overflow_back : overflow_in bodies ≡ s.board.overflow
    overflow_back =
        ap (λ (j : ℕ). eqb (get_or (drop (bytes_in_use ed.payload j) bodies) 0 0) 1) count_back
        ∙ ap (λ (l : List ℕ). eqb (get_or l 0 0) 1)
        (drop_at (memory_body cfg ed s) (overflow_body cfg s ++ rest) used (used_length cfg s tells))
        ∙ flag s.board.overflow
      where
        flag : (b : Bool) → eqb (cond b 1 0) 1 ≡ b
        flag true = refl
        flag false = refl

    -- with every cycle stopped each D is 0
    debounce_back : replicate (events cfg) (pos 0) ≡ s.debounce
    debounce_back =
        ext_get_or (pos 0) (replicate (events cfg) (pos 0)) s.debounce
        (length-replicate (events cfg) (pos 0) ∙ sym tells.lengths.debounce)
        (λ e h. let below : e < events cfg = subst (λ (j : ℕ). e < j) (length-replicate (events cfg) (pos 0)) h in
        get_or-replicate (events cfg) e (pos 0) (pos 0) below
        ∙ sym
        (stopped_zero cfg s.board e (D s e) (none_runs s.board.running still.stopped (cycle_of cfg e))
        (tells.numbers e below)))

    running_back : all_stopped ≡ s.board.running
    running_back =
        ext_get_or false all_stopped s.board.running (sym still.four)
        (λ c h. none_runs all_stopped refl c ∙ sym (none_runs s.board.running still.stopped c))

    pub state_of_image : state_in cfg ed (image_in cfg ed s ++ rest) ≡ s
    unfolding state_in
    state_of_image = λ i. record {
      records = records_back i;
      debounce = debounce_back i;
      memory = (ap memory_in bodies_are ∙ memory_back) i;
      board = record { running = running_back i; overflow = (ap overflow_in bodies_are ∙ overflow_back) i };
    }

  pub state_of_own_image : (s : State) → StillWith cfg ed.payload s → state_in cfg ed (image_in cfg ed s) ≡ s
  state_of_own_image s still = ap (state_in cfg ed) (sym (append-nil (image_in cfg ed s))) ∙ state_of_image s still []

  pub own_image_acceptable : (s : State) → StillWith cfg ed.payload s → acceptable_in cfg ed (image_in cfg ed s) ≡ true
  unfolding acceptable_in
  own_image_acceptable s still =
      rw (state_of_own_image s still)
      (both (well_formed_with cfg ed.payload s) (equal (image_in cfg ed s) (image_in cfg ed s)) still.formed
      (equal_refl (image_in cfg ed s)))

  -- an accepted image is the image of the state that it tells
  pub accepted_image : (image : List ℕ) → acceptable_in cfg ed image ≡ true → image_in cfg ed (state_in cfg ed image)
      ≡ image
  unfolding acceptable_in
  accepted_image image a =
      equal_is _ _
      (and_right (well_formed_with cfg ed.payload (state_in cfg ed image))
      (equal (image_in cfg ed (state_in cfg ed image)) image) a)

  -- and the state is well formed and still
  pub accepted_state : (image : List ℕ) → acceptable_in cfg ed image ≡ true
      → StillWith cfg ed.payload (state_in cfg ed image)
  unfolding acceptable_in state_in
  accepted_state image a =
      record {
        formed =
            and_left (well_formed_with cfg ed.payload (state_in cfg ed image))
            (equal (image_in cfg ed (state_in cfg ed image)) image) a;
        four = refl;
        stopped = refl;
      }

  -- byte 1 tells the edition, whatever follows the image
  pub byte_1 : (s : State) (rest : List ℕ) → get_or (image_in cfg ed s ++ rest) 1 0 ≡ ed.number
  unfolding image_in image_from
  byte_1 s rest = refl

  pub accepted_byte_1 : (image rest : List ℕ) → acceptable_in cfg ed image ≡ true → get_or (image ++ rest) 1 0 ≡ ed.number
  accepted_byte_1 image rest a =
      ap (λ (l : List ℕ). get_or (l ++ rest) 1 0) (sym (accepted_image image a)) ∙ byte_1 (state_in cfg ed image) rest

  -- no byte may follow an accepted image
  pub longer_refused : (image : List ℕ) (x : ℕ) (xs : List ℕ) → acceptable_in cfg ed image ≡ true
      → acceptable_in cfg ed (image ++ x ∷ xs) ≡ true → ⊥
  longer_refused image x xs a b = let l = length-append image (x ∷ xs) in let e = ap length same in omega arith
    where
      image_is : image_in cfg ed (state_in cfg ed image) ++ x ∷ xs ≡ image ++ x ∷ xs
      image_is = ap (λ (l : List ℕ). l ++ x ∷ xs) (accepted_image image a)

      same_state : state_in cfg ed (image ++ x ∷ xs) ≡ state_in cfg ed image
      same_state =
          ap (state_in cfg ed) (sym image_is) ∙ state_of_image (state_in cfg ed image) (accepted_state image a) (x ∷ xs)

      same : image ≡ image ++ x ∷ xs
      same = sym (accepted_image image a) ∙ ap (image_in cfg ed) (sym same_state) ∙ accepted_image (image ++ x ∷ xs) b
