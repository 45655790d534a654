-- `text::calls::put_listing` meets its contract: the line of a refused file, or the listing of its plan. Assumes nothing.
use mathlib.Core.Path.{sym}
use Rattle.text.proofs.TextLaws.{refused-listing, loaded-valid, accepted-listing, fits-as, laid_as}
use Rattle.text.proofs.calls.put_listing.Goals as goal

pub put_refused-requires : goal.put_refused-requires
put_refused-requires c =
    fits-as _ _ c.args.out.now (refused-listing c.args.s.now _ _ c.from.ensures c.in-Err.ensures.number) c.requires

pub put_accepted-requires : goal.put_accepted-requires
put_accepted-requires c =
    let b = c.args.s.now in
    let read = c.in-Ok.ensures in
    record {
      words_value = loaded-valid b _ _ _ read.header (sym read.number) read.loaded;
      words_in_bounds = fits-as _ _ c.args.out.now (accepted-listing b _ _ _ read.header (sym read.number) read.loaded) c.requires;
    }

pub returns-in-Err : goal.returns-in-Err
returns-in-Err c =
    laid_as _ _ _ _ _ (refused-listing c.args.s.now _ _ c.from.ensures c.in-Err.ensures.number) c.put_refused.ensures

pub returns-in-Ok : goal.returns-in-Ok
returns-in-Ok c =
    let read = c.in-Ok.ensures in
    laid_as _ _ _ _ _ (accepted-listing c.args.s.now _ _ _ read.header (sym read.number) read.loaded) c.put_accepted.ensures
