use Rattle.std.proofs.Common.{◌<◌, inl, inr, arith}
use Rattle.ordered_map.specs.Maps.{capacity_of, entries_of}
use Rattle.ordered_map.proofs.Inserting.{replaced, replaced_map, appended, appended_map, refused_by_free, refused_by_full}
use Rattle.ordered_map.proofs.Laws.{in_order}
use Rattle.ordered_map.proofs.map.OrderedMap.insert.Goals as goal

pub returns-in-Found-clause-inserted : goal.returns-in-Found-clause-inserted
returns-in-Found-clause-inserted g c = λ _.
    let w = c.replace.ensures in
    replaced _ g.S.KeySpace.numberof c.args.self.now c.replace.new.self _ c.in-Found.place c.in-Found.ensures.ends_at.meets c.replace.result w.written w.len

pub returns-in-Found-clause-still_a_map : goal.returns-in-Found-clause-still_a_map
returns-in-Found-clause-still_a_map g c =
    let w = c.replace.ensures in
    replaced_map _ _ c.args.self.now c.replace.new.self _ c.in-Found.place c.in-Found.ensures.ends_at.meets c.replace.result w.written w.len w.slots

pub returns-in-Found-clause-one_insertion_more : goal.returns-in-Found-clause-one_insertion_more
returns-in-Found-clause-one_insertion_more g c = λ _ _ news a.
    let w = c.replace.ensures in
    (entries_of c.args.self.now, (a, inl (c.replace.result, replaced _ g.S.KeySpace.numberof c.args.self.now c.replace.new.self _ c.in-Found.place c.in-Found.ensures.ends_at.meets c.replace.result w.written w.len)))

pub returns-in-Found-clause-in_order_of_first_insertion : goal.returns-in-Found-clause-in_order_of_first_insertion
returns-in-Found-clause-in_order_of_first_insertion g c = λ means news a. in_order means news _ a

pub returns-in-Free-clause-inserted : goal.returns-in-Free-clause-inserted
returns-in-Free-clause-inserted g c =
    let w = c.append.ensures in
    appended _ _ c.args.self.now c.append.new.self _ c.in-Free.at c.in-Free.number w.entries w.len (omega (arith, c.capacity.ensures.least)) c.in-Free.ensures.ends_at

pub returns-in-Free-clause-still_a_map : goal.returns-in-Free-clause-still_a_map
returns-in-Free-clause-still_a_map g c = λ is.
    let w = c.append.ensures in
    let room : c.args.self.now.len < capacity_of c.args.self.now = omega (arith, c.capacity.ensures.least) in
    appended_map _ _ c.args.self.now c.append.new.self _ c.in-Free.at c.in-Free.number w.entries w.len room c.in-Free.ensures.ends_at is w.slots

pub returns-in-Free-clause-one_insertion_more : goal.returns-in-Free-clause-one_insertion_more
returns-in-Free-clause-one_insertion_more g c = λ is _ news a.
    let w = c.append.ensures in
    let room : c.args.self.now.len < capacity_of c.args.self.now = omega (arith, c.capacity.ensures.least) in
    (entries_of c.args.self.now, (a, inr (appended _ _ c.args.self.now c.append.new.self _ c.in-Free.at c.in-Free.number w.entries w.len room c.in-Free.ensures.ends_at is).0))

pub returns-in-Free-clause-in_order_of_first_insertion : goal.returns-in-Free-clause-in_order_of_first_insertion
returns-in-Free-clause-in_order_of_first_insertion g c = λ means news a. in_order means news _ a

pub returns-in-Free-2-clause-inserted : goal.returns-in-Free-2-clause-inserted
returns-in-Free-2-clause-inserted g c = λ is. refused_by_free _ _ c.args.self.now _ is _ _ c.in-Free-2.ensures.ends_at (omega (arith, c.capacity.ensures.least))

pub returns-in-Free-2-clause-in_order_of_first_insertion : goal.returns-in-Free-2-clause-in_order_of_first_insertion
returns-in-Free-2-clause-in_order_of_first_insertion g c = λ means news a. in_order means news _ a

pub returns-in-Full-clause-inserted : goal.returns-in-Full-clause-inserted
returns-in-Full-clause-inserted g c = λ is. refused_by_full _ _ c.args.self.now _ is c.in-Full.ensures.ends_at

pub returns-in-Full-clause-in_order_of_first_insertion : goal.returns-in-Full-clause-in_order_of_first_insertion
returns-in-Full-clause-in_order_of_first_insertion g c = λ means news a. in_order means news _ a
