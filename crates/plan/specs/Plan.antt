-- A plan: document 01, section "Plan file". What a plan file and lent lists denote.
-- Assumes nothing.
use Rattle.std.specs.Prelude.{List, ℕ, get_or}

-- a link: its end nodes, the smaller number first
pub record Link : Type 0 where
  pub low : ℕ
  pub high : ℕ

-- a shared-risk event: its probability in units of 10^-9, its set of nodes and its set of links
pub record Event : Type 0 where
  pub probability : ℕ
  pub nodes : ℕ
  pub links : ℕ

-- a plan: the number of nodes (N), the links, the events, the threshold t in units of mass, and the greatest number of ends of the walk
-- (cap)
pub record Plan : Type 0 where
  pub nodes : ℕ
  pub links : List Link
  pub events : List Event
  pub threshold : ℕ
  pub cap : ℕ

-- link i of a list
abbrev pub link_at : List Link → ℕ → Link
link_at links i = get_or links i (record { low = 0; high = 0 })
