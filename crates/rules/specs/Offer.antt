-- The offered place.
use Rattle.std.specs.Prelude.{Bool, false, cond, ◌&&◌, List, ◌-◌, ltb, leb}
use Rattle.std.proofs.Math.Option.{Option, none, some}
use Rattle.basics.specs.Lists.{first}
use Rattle.basics.specs.Lex.{lex}
use Rattle.rules.specs.declared.Base.{Base}
use Rattle.rules.specs.declared.Place.{Place}
use Rattle.rules.specs.Offered.{Offer}
use Rattle.std.specs.Prelude.{None, Some}
use Rattle.rules.specs.Rows.{Record}
use Rattle.rules.specs.Overlap.{awaited}

-- "let T be the first record of the merged list that lies on a later chromosome, or on p's and ends after p.start"
abbrev pub target : List Record → Base → Option Record
target M p = first (awaited p) M

-- "T.start > p.stop and T.start - p.stop > 100,000"
abbrev pub far : Base → Record → Bool
far p t = ltb p.stop t.it.start && ltb 100000 (t.it.start - p.stop)

-- "No T: no offer. T on a later chromosome: the place is T's chromosome and start. T on p's: only if [far]; the place is T.start - 1."
abbrev pub place_for : Base → Option Record → Offer
place_for p none = None
place_for p (some t) =
    cond (ltb p.chrom.0 t.it.chrom.0)
    (Some (record { chrom = t.it.chrom; stop = t.it.start }))
    (cond (far p t) (Some (record { chrom = t.it.chrom; stop = t.it.start - 1 })) None)

-- "After an accepted base p with start < stop"; "After a base of length zero nothing is offered."
unfoldable pub offer : List Record → Base → Offer
offer M p = cond (ltb p.start p.stop) (place_for p (target M p)) None

-- "A place permits leaving out the following bases on earlier chromosomes, and on its own those with stop at or below it"
abbrev pub permits : Place → Base → Bool
permits g c = lex c.chrom.0 g.chrom.0 (leb c.stop g.stop)

-- "it holds until the next offer": the place in force after one more offer
abbrev pub hold : Offer → Offer → Offer
hold old None = old
hold old (Some g) = Some g

abbrev pub allowed : Offer → Base → Bool
allowed None c = false
allowed (Some g) c = permits g c
