pub mod ToldContents
