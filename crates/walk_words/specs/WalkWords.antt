-- A walk as a list of words: document 02, request U4.
-- Assumes nothing.
use Rattle.std.specs.Prelude.{List, ◌∷◌, ◌++◌, map, ℕ, ◌%◌, get_or, take, drop}
use Rattle.walk_state.specs.declared.Walk.{Walk}

-- how many words a walk has
abbrev pub walk_length : ℕ
walk_length = 3305

-- the words of a walk: the five numbers of its header, its own four, then its link bytes, one to a word, its events, its stack, its sums
unfoldable pub walk_words : Walk → List ℕ
walk_words w =
    w.header.nodes
    ∷ w.header.links
    ∷ w.header.events
    ∷ w.header.threshold
    ∷ w.header.cap
    ∷ w.at
    ∷ w.reached
    ∷ w.count
    ∷ w.mass
    ∷ (w.links ++ (w.events ++ (w.stack ++ w.sums)))

-- the walk that words stand for: of a word that holds a link byte, the lowest eight bits
unfoldable pub walk_of : List ℕ → Walk
walk_of s =
    record {
      header = record { nodes = get_or s 0 0; links = get_or s 1 0; events = get_or s 2 0; threshold = get_or s 3 0; cap = get_or s 4 0 };
      links = map (λ (x : ℕ). x % 256) (take 256 (drop 9 s));
      events = take 512 (drop 265 s);
      stack = take 512 (drop 777 s);
      sums = take 2016 (drop 1289 s);
      at = get_or s 5 0;
      reached = get_or s 6 0;
      count = get_or s 7 0;
      mass = get_or s 8 0;
    }
