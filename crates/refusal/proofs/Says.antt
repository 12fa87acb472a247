-- What a refusal says tells which one it is: different refusals say different things. Assumes nothing.
use mathlib.Core.Path.{◌≡◌, refl, sym, ap, ◌∙◌}
use mathlib.Core.List.{List, [], ◌∷◌}
use lib.ListN.{get_or}
use Rattle.refusal.specs.Says.{Said, only, at_line, says_of}
use Rattle.refusal.specs.declared.Refusal.{Refusal}
use Rattle.refusal.specs.declared.Refusal.TheVariants.{BadState, EmptyMessage, LongMessage, MessageType, Layout, TooManyItems, ItemRule, KeyLength, KeySelector, Content, BeyondRadius, AlreadyHeld, NotHeld, ShortBuffer, BadSnapshot, NotHex, ContentEndsEarly, BeyondNewest, OwnId, TableFull, ReplacementsFull, Unusable, InputLength, NoSuchPlace, NoEntry}

-- the refusals without a line, by their numbers, `NotHex` also where a number is not used; `NoEntry` comes behind them
abbrev table : List Refusal
table =
    BadState ∷ EmptyMessage ∷ LongMessage ∷ MessageType ∷ Layout ∷ TooManyItems ∷ ItemRule ∷ KeyLength ∷ KeySelector ∷ Content
    ∷ BeyondRadius ∷ AlreadyHeld ∷ NotHeld ∷ ShortBuffer ∷ NotHex ∷ NotHex ∷ ContentEndsEarly ∷ BeyondNewest ∷ NotHex ∷ NotHex ∷ OwnId ∷ TableFull ∷ ReplacementsFull ∷ Unusable
    ∷ InputLength ∷ NoSuchPlace ∷ []

-- the refusal that says something
abbrev pub refusal_of : Said → Refusal
refusal_of (only n) = get_or table n NoEntry
refusal_of (at_line n line) = BadSnapshot line

-- it is the one that said it
pub said_by : (why : Refusal) → refusal_of (says_of why) ≡ why
said_by BadState = refl
said_by EmptyMessage = refl
said_by LongMessage = refl
said_by MessageType = refl
said_by Layout = refl
said_by TooManyItems = refl
said_by ItemRule = refl
said_by KeyLength = refl
said_by KeySelector = refl
said_by Content = refl
said_by BeyondRadius = refl
said_by AlreadyHeld = refl
said_by NotHeld = refl
said_by ShortBuffer = refl
said_by (BadSnapshot line) = refl
said_by NotHex = refl
said_by ContentEndsEarly = refl
said_by BeyondNewest = refl
said_by OwnId = refl
said_by TableFull = refl
said_by ReplacementsFull = refl
said_by Unusable = refl
said_by InputLength = refl
said_by NoSuchPlace = refl
said_by NoEntry = refl

pub says_inj : (a b : Refusal) → says_of a ≡ says_of b → a ≡ b
says_inj a b e = sym (said_by a) ∙ ap refusal_of e ∙ said_by b
