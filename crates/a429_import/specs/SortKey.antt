-- The order in which entries that may be the same lie together (profile).
use Rattle.std.specs.Prelude.{ℕ, ◌-◌, Bool, true, false}
use Rattle.a429_word.specs.declared.bus.Bus.{Bus}
use Rattle.a429_word.specs.declared.bus.Bus.TheVariants as bus
use Rattle.a429_record.specs.declared.entry.Entry.{Entry}
use Rattle.a429_import.specs.declared.sort_key.SortKey.{SortKey}

abbrev pub is_on_b : Bus → Bool
is_on_b bus.A = false
is_on_b bus.B = true

abbrev pub line_of : Bool → Bus
line_of false = bus.A
line_of true = bus.B

abbrev pub key_of : Entry → SortKey
key_of e = record { is_on_b = is_on_b e.bus; word = e.word; time = e.time }

abbrev pub entry_of : SortKey → Entry
entry_of k = record { time = k.time; bus = line_of k.is_on_b; word = k.word }

-- the least key that an entry can have again, where its time may differ by so much
abbrev pub earliest : ℕ → Entry → SortKey
earliest within e = record (key_of e) { time = e.time - within }
