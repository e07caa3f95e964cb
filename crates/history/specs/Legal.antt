-- Which histories the calls of document 01 can make: results and stops lie in a run, starts between runs. Assumes
-- nothing.
use Rattle.std.specs.Prelude.{Bool, true, false, not, ◌&&◌, [], ◌∷◌}
use Rattle.history.specs.History.{passed, failed, start, stop, clear, History}

-- "A run goes from a start to its stop.": a run is going on; the cycles of the fresh state are stopped
abbrev pub running : History → Bool
running [] = false
running (passed ∷ l) = running l
running (failed ∷ l) = running l
running (start ∷ l) = true
running (stop ∷ l) = false
running (clear ∷ l) = running l

-- "5 | report or stop, cycle stopped; start, cycle running"; "Clear, …, in any cycle state"
abbrev pub legal : History → Bool
legal [] = true
legal (passed ∷ l) = running l && legal l
legal (failed ∷ l) = running l && legal l
legal (start ∷ l) = not (running l) && legal l
legal (stop ∷ l) = running l && legal l
legal (clear ∷ l) = legal l
