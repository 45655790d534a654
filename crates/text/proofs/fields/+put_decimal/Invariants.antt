-- `text::fields::put_decimal` calls itself with a tenth of the number. Assumes nothing.
use Rattle.text.proofs.fields.+put_decimal.Given as goal

abbrev pub decreases-put_decimal : goal.decreases-put_decimal
decreases-put_decimal l = l.x
