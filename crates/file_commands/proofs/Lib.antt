pub mod NewFiles
