-- `trials_vectors::data::large_file` meets its contract: header, links and events are laid down one after the other. Assumes nothing.
use mathlib.Core.Path.{◌≡◌, refl, sym, ap, subst, ◌∙◌}
use mathlib.Core.List.{List, ◌++◌}
use Prim.Native.Nat.{ℕ}
use native.Mathlib.Omega.{arith}
use borrow.Author.Rules.{rules}
use lib.ListN.{length, take, drop, replicate, length-append}
use lib.Seq.{sets, take_all}
use Rattle.trials_vectors.specs.Data.{LinksUpTo, large_header, large_events}
use Rattle.trials_vectors.proofs.DataLaws.{three-laid, first_part, second-part, third-part}
use Rattle.trials_vectors.proofs.data.large_file.Goals as goal

pub returns : goal.returns
returns c =
    let links = c.many_links-links.result in
    let sized : length links ≡ 256 = search rules in
    let one = c.copy_first.new.to in
    let two = c.copy_first-2.new.to in
    let laid : two ≡ sets one 20 links =
    c.copy_first-2.ensures ∙ ap (λ (l : List ℕ). sets one 20 l) (take_all 256 links (omega arith)) in
    let file : c.copy_first-3.new.to ≡ large_header ++ links ++ large_events =
    c.copy_first-3.ensures
    ∙ three-laid (replicate 302 0) one two large_header links large_events 20 276 c.copy_first.ensures laid refl (omega arith) refl in
    let middle : take 256 (drop 20 c.copy_first-3.new.to) ≡ links =
    ap (λ (l : List ℕ). take 256 (drop 20 l)) file ∙ second-part large_header links large_events 20 256 refl sized in
    let seam : length (large_header ++ links) ≡ 276 = omega (arith, length-append large_header links) in
    record {
      header = ap (take 20) file ∙ first_part large_header links large_events 20 refl;
      links = subst (LinksUpTo 128) (sym middle) c.many_links-links.ensures;
      events = ap (drop 276) file ∙ third-part large_header links large_events 276 seam;
    }
