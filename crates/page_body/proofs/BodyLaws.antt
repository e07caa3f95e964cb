-- Laws of specs/Body.antt: what its parts are read off, the rows of the table, what the code may count on.
use mathlib.Core.Path.{◌≡◌, refl, ap, subst, ◌∙◌}
use mathlib.Core.Bool.{Bool}
use mathlib.Core.List.{List, [], ◌∷◌}
use Prim.Native.Nat.{ℕ, zero, suc, ◌≤◌, ◌<◌}
use native.Mathlib.Omega.{arith}
use lib.IntN.{ℤ}
use lib.ListN.{length, take, drop}
use Rattle.manual.specs.declared.Board.{Board}
use Rattle.manual.specs.Words.{count_below}
use Rattle.manual.specs.Configuration.{Configuration, most_places, events, entry_frames}
use Rattle.manual.specs.State.{State, lent, runs}
use Rattle.manual.specs.Memory.{entry_count}
use Rattle.manual.specs.Untested.{row, table, is_grey, paint_of}
use Rattle.memory.specs.Fits.{EntriesFit}
use Rattle.memory.proofs.PlacesLaws.{entries_fit}
use Rattle.untested.specs.Page.{holding}
use Rattle.page_text.specs.declared.Page.{Page}
use Rattle.page_text.specs.Page.{Adds}
use Rattle.page_heads.specs.Heads.{cycle_row}
use Rattle.page_rows.specs.Rows.{is_painted, Shown}
use Rattle.page_body.specs.Body.{painted, cycle_one}

-- ---- the paints are read off the records and the board alone

module _ (cfg : Configuration) (records : List ℕ) (board : Board) (which : ℕ) where
  pub painted_in : (d : List ℤ) (m : List ℕ)
      → painted cfg (holding records board) which ≡ painted cfg (lent records d m board) which
  unfolding painted paint_of is_grey
  painted_in d m = refl

  -- those of all events
  pub painted_by : (n number : ℕ) → n ≡ events cfg
      → number ≡ count_below n (λ e. is_painted cfg (holding records board) e which)
      → number ≡ painted cfg (holding records board) which
  unfolding painted
  painted_by n number e q = q ∙ ap (λ (k : ℕ). count_below k (λ e. is_painted cfg (holding records board) e which)) e

-- ---- the rows of the table

module _ (cfg : Configuration) (s : State) where
  pub row_0 : take 8 (drop 0 (table cfg s)) ≡ row cfg s 0
  unfolding table
  row_0 = refl

  pub row_1 : take 8 (drop 8 (table cfg s)) ≡ row cfg s 1
  unfolding table
  row_1 = refl

  pub row_2 : take 8 (drop 16 (table cfg s)) ≡ row cfg s 2
  unfolding table
  row_2 = refl

  pub row_3 : take 8 (drop 24 (table cfg s)) ≡ row cfg s 3
  unfolding table
  row_3 = refl

  pub cycle_put : (c : ℕ) {most : ℕ} {running : Bool} {counts : List ℕ} {before after : Page}
      → running ≡ runs s.board c
      → counts ≡ row cfg s c
      → Adds (cycle_row c running counts) most before after
      → Adds (cycle_one cfg s c) most before after
  unfolding cycle_one
  cycle_put c {most} {running} {counts} {before} {after} r l p =
      subst (λ (k : List ℕ). Adds (cycle_row c (runs s.board c) k) most before after) l
      (subst (λ (b : Bool). Adds (cycle_row c b counts) most before after) r p)

pub take_few : (n : ℕ) (l : List ℕ) → length (take n l) ≤ n
take_few zero l = omega arith
take_few (suc n) [] = omega arith
take_few (suc n) (x ∷ l) = let few = take_few n l in omega arith

-- ---- a state that may be shown

module _ (cfg : Configuration) (s : State) (o : Shown cfg s) where
  shown_fits : EntriesFit (entry_frames cfg) s.memory
  shown_fits = entries_fit cfg s o.accepted o.formed

  pub memory_begins : 0 < length s.memory
  memory_begins = let f = shown_fits.within in omega arith

  pub taken_most : entry_count s.memory ≤ most_places
  taken_most = shown_fits.count_most
