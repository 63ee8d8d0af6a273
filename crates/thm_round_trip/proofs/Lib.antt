-- The theorems of demand 2: what is written reads back, when nothing is written, and that what is read lies within the frame
pub mod RoundTrip
pub mod Exactly
pub mod EveryCeiling
pub mod WithoutTwenty
pub mod LastTwoWritten
pub mod ReadWithin
-- Document 02, P2: a reading does not depend on bytes 15 and 16, but for the version
pub mod LastTwoRead
-- The same of the functions themselves, and that what they take a call to ensure is what the contract says
pub mod CalledBack
pub mod CalledWithin
pub mod CalledCeiling
pub mod Contracts
-- The laws under them: a message by its schema, then the frame and the record
mod Said
mod Written
mod Formed
mod Landing
mod Keys
mod FieldsRead
mod SchemaRead
mod SchemaSaid
mod MessageRead
mod FrameBack
mod RecordBack
mod Accepted
mod Held
mod FrameRead
mod GroundTests
mod SpansKept
