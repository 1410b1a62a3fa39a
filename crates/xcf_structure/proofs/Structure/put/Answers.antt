-- Six parts one behind the other, and what each leaves is room for the others: `structure_words`.
use native.Mathlib.Omega.{arith}
use lib.ListN.{length-append}
use Rattle.xcf_store.proofs.Words.{word_length, words_length}
use Rattle.xcf_structure.proofs.StructureLength.{structure_words}
use Rattle.xcf_structure.proofs.PartsStored.{parts_first, parts_next}
use Rattle.xcf_structure.proofs.Structure.put.Goals as goal

pub words-requires : goal.words-requires
words-requires c =
    let a = c.args in
    let sides = parts_first (structure_words a.self.now.row a.self.now.masked a.self.now.name.now a.hierarchy a.mask) c.requires in
    omega (arith, rw (length-append, words_length) at sides.fits.room)

pub words_when-requires : goal.words_when-requires
words_when-requires c =
    let a = c.args in
    let sides = parts_first (structure_words a.self.now.row a.self.now.masked a.self.now.name.now a.hierarchy a.mask) c.requires in
    let form = parts_next c.words.ensures.stores sides in
    omega (arith, rw length-append at form.fits.room)

pub put_name-requires : goal.put_name-requires
put_name-requires c =
    let a = c.args in
    let sides = parts_first (structure_words a.self.now.row a.self.now.masked a.self.now.name.now a.hierarchy a.mask) c.requires in
    let name = parts_next c.words_when.ensures.stores (parts_next c.words.ensures.stores sides) in
    (c.args.self.now.short, omega (arith, rw length-append at name.fits.room))

pub put_list-requires : goal.put_list-requires
put_list-requires c =
    let a = c.args in
    let sides = parts_first (structure_words a.self.now.row a.self.now.masked a.self.now.name.now a.hierarchy a.mask) c.requires in
    let name = parts_next c.words_when.ensures.stores (parts_next c.words.ensures.stores sides) in
    let list = parts_next c.put_name.ensures.stores name in
    omega (arith, rw length-append at list.fits.room)

pub word-requires : goal.word-requires
word-requires c =
    let a = c.args in
    let sides = parts_first (structure_words a.self.now.row a.self.now.masked a.self.now.name.now a.hierarchy a.mask) c.requires in
    let name = parts_next c.words_when.ensures.stores (parts_next c.words.ensures.stores sides) in
    let pointers = parts_next c.put_list.ensures.stores (parts_next c.put_name.ensures.stores name) in
    omega (arith, rw (length-append, word_length) at pointers.fits.room)

pub words_when-requires-2 : goal.words_when-requires-2
words_when-requires-2 c =
    let a = c.args in
    let sides = parts_first (structure_words a.self.now.row a.self.now.masked a.self.now.name.now a.hierarchy a.mask) c.requires in
    let name = parts_next c.words_when.ensures.stores (parts_next c.words.ensures.stores sides) in
    let pointers = parts_next c.put_list.ensures.stores (parts_next c.put_name.ensures.stores name) in
    let mask = parts_next c.word.ensures.stores pointers in
    mask.fits.room

pub returns-clause-stores : goal.returns-clause-stores
returns-clause-stores c =
    let a = c.args in
    let sides = parts_first (structure_words a.self.now.row a.self.now.masked a.self.now.name.now a.hierarchy a.mask) c.requires in
    let name = parts_next c.words_when.ensures.stores (parts_next c.words.ensures.stores sides) in
    let pointers = parts_next c.put_list.ensures.stores (parts_next c.put_name.ensures.stores name) in
    let mask = parts_next c.word.ensures.stores pointers in
    mask.whole _ _ c.words_when-2.ensures.stores
