-- `number_of`, `place_of`: a refusal's number and its place, as the documents and the C interface give them.
pub mod Number
