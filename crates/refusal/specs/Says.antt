-- What a refusal says: its number in document 01's table "Numbers given back", which document 02's requests join, for 14 its line too, and
-- nothing else.
use Rattle.std.specs.Prelude.{ℕ}
use Rattle.refusal.specs.declared.Refusal.{Refusal}
use Rattle.refusal.specs.declared.Refusal.TheVariants.{BadState, EmptyMessage, LongMessage, MessageType, Layout, TooManyItems, ItemRule, KeyLength, KeySelector, Content, BeyondRadius, AlreadyHeld, NotHeld, ShortBuffer, BadSnapshot, NotHex, ContentEndsEarly, BeyondNewest, OwnId, TableFull, ReplacementsFull, Unusable, InputLength, NoSuchPlace, NoEntry}

pub data Said : Type 0 where
  only : (number : ℕ) → Said
  at_line : (number line : ℕ) → Said

abbrev pub says_of : Refusal → Said
says_of BadState = only 0
says_of EmptyMessage = only 1
says_of LongMessage = only 2
says_of MessageType = only 3
says_of Layout = only 4
says_of TooManyItems = only 5
says_of ItemRule = only 6
says_of KeyLength = only 7
says_of KeySelector = only 8
says_of Content = only 9
says_of BeyondRadius = only 10
says_of AlreadyHeld = only 11
says_of NotHeld = only 12
says_of ShortBuffer = only 13
says_of (BadSnapshot line) = at_line 14 line
says_of NotHex = only 15
says_of ContentEndsEarly = only 16
says_of BeyondNewest = only 17
says_of OwnId = only 20
says_of TableFull = only 21
says_of ReplacementsFull = only 22
says_of Unusable = only 23
says_of InputLength = only 24
says_of NoSuchPlace = only 25
says_of NoEntry = only 29

-- the number, without a line
abbrev pub number_in : Said → ℕ
number_in (only n) = n
number_in (at_line n line) = n

abbrev pub number_of : Refusal → ℕ
number_of why = number_in (says_of why)
